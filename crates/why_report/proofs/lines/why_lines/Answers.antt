use Rattle.std.proofs.Common.{arith}
use Rattle.std.proofs.lemmas.Result.{IfOk-weaker}
use Rattle.chain_text.proofs.FormTexts.{further-form, no-clash}
use Rattle.why_report.specs.Waits.{values}
use Rattle.why_report.proofs.ChainNames.{lines_chain}
use Rattle.why_report.proofs.lines.why_lines.Goals as goal

pub unreachable-requires : goal.unreachable-requires
unreachable-requires c =
    let part = c.known-known.ensures.solved.each c.known-known.result (omega arith) in
    let t = rw (c.in-Some.is, c.new.ensures, c.templates-templates.ensures.nodes, c.outer-base.ensures.stores, c.stores.ensures) at c.in_ok-take_stores.ensures.taken in
    no-clash c.args.chain.now.nodes c.args.chain.now.stores c.known-known.result part c.in-Some.field-0.left c.in-Some.field-0.right c.requires t

pub returns : goal.returns
returns c =
    let part = c.known-known.ensures.solved.each c.known-known.result (omega arith) in
    let t = rw (c.in-None.is, c.new.ensures, c.templates-templates.ensures.nodes, c.outer-base.ensures.stores, c.stores.ensures) at c.in_ok-take_stores.ensures.taken in
    let form = further-form c.args.chain.now.nodes c.args.chain.now.stores c.known-known.result part c.take_stores.new.form.added t in
    IfOk-weaker c.lines_of.result _ _ (λ text h. lines_chain c.args.chain.now.nodes c.args.chain.now.stores _ form c.args.shown.now c.args.number (values c.args.waiting.now) text.items h)
    (rw (c.templates-templates.ensures.nodes, c.in_ok-take_stores.ensures.known, c.outer-base.ensures.stores) at c.lines_of.ensures)
