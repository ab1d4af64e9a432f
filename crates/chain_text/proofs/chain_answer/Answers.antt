use Rattle.std.proofs.Common.{arith}
use Rattle.std.proofs.lemmas.Result.{IfOk-weaker}
use Rattle.chain_text.proofs.FormTexts.{further-form, no-clash, form_text, form_too_long}
use Rattle.chain_text.proofs.chain_answer.Goals as goal

pub unreachable-requires : goal.unreachable-requires
unreachable-requires c =
    let part = c.known-known.ensures.solved.each c.known-known.result (omega arith) in
    let t = rw (c.in-Some.is, c.new.ensures, c.templates-templates.ensures.nodes, c.outer-base.ensures.stores, c.stores.ensures) at c.in_ok-take_stores.ensures.taken in
    no-clash c.args.chain.now.nodes c.args.chain.now.stores c.known-known.result part c.in-Some.field-0.left c.in-Some.field-0.right c.requires t

pub returns-clause-text : goal.returns-clause-text
returns-clause-text c =
    let part = c.known-known.ensures.solved.each c.known-known.result (omega arith) in
    let t = rw (c.in-None.is, c.new.ensures, c.templates-templates.ensures.nodes, c.outer-base.ensures.stores, c.stores.ensures) at c.in_ok-take_stores.ensures.taken in
    let form = further-form c.args.chain.now.nodes c.args.chain.now.stores c.known-known.result part c.take_stores.new.form.added t in
    IfOk-weaker c.answer_lines.result _ _ (λ text a. form_text c.args.chain.now _ form c.args.shown.now text.items a)
    (rw (c.templates-templates.ensures.nodes, c.templates-templates.ensures.symbols, c.in_ok-take_stores.ensures.known, c.outer-base.ensures.stores) at c.answer_lines.ensures.text)

pub returns-clause-long : goal.returns-clause-long
returns-clause-long c e =
    let part = c.known-known.ensures.solved.each c.known-known.result (omega arith) in
    let t = rw (c.in-None.is, c.new.ensures, c.templates-templates.ensures.nodes, c.outer-base.ensures.stores, c.stores.ensures) at c.in_ok-take_stores.ensures.taken in
    let form = further-form c.args.chain.now.nodes c.args.chain.now.stores c.known-known.result part c.take_stores.new.form.added t in
    form_too_long c.args.chain.now _ form c.args.shown.now
    (rw (c.templates-templates.ensures.nodes, c.templates-templates.ensures.symbols, c.in_ok-take_stores.ensures.known, c.outer-base.ensures.stores) at c.answer_lines.ensures.long e)
