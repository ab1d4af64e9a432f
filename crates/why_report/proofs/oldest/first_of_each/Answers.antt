use Rattle.std.proofs.Common.{arith}
use Rattle.std.proofs.lemmas.Result.{IfOk-weaker}
use Rattle.chain_text.proofs.FormTexts.{further-form, no-clash}
use Rattle.local_store.specs.Chained.{equations_of}
use Rattle.why_report.proofs.Leasts.{first_least, none_least}
use Rattle.why_report.proofs.oldest.first_of_each.Goals as goal

pub returns-in-Some : goal.returns-in-Some
returns-in-Some c =
    let part = c.known-known.ensures.solved.each c.known-known.result (omega arith) in
    let t = rw (c.in-Some.is, c.new.ensures, c.templates-templates.ensures.nodes, c.outer-base.ensures.stores, c.stores.ensures) at c.in_ok-take_stores.ensures.taken in
    rw c.new-in-Some.ensures.items (none_least (equations_of c.args.chain.now.nodes c.args.chain.now.stores) c.args.sorted.now
    (λ k. no-clash c.args.chain.now.nodes c.args.chain.now.stores c.known-known.result part c.in-Some.field-0.left c.in-Some.field-0.right k t))

pub returns : goal.returns
returns c =
    let part = c.known-known.ensures.solved.each c.known-known.result (omega arith) in
    let t = rw (c.in-None.is, c.new.ensures, c.templates-templates.ensures.nodes, c.outer-base.ensures.stores, c.stores.ensures) at c.in_ok-take_stores.ensures.taken in
    let form = further-form c.args.chain.now.nodes c.args.chain.now.stores c.known-known.result part c.take_stores.new.form.added t in
    IfOk-weaker c.first_by_ends.result _ _ (λ list h. first_least c.args.chain.now.nodes _ (equations_of c.args.chain.now.nodes c.args.chain.now.stores) form c.args.sorted.now list.items h)
    (rw (c.templates-templates.ensures.nodes, c.in_ok-take_stores.ensures.known, c.outer-base.ensures.stores) at c.first_by_ends.ensures)
