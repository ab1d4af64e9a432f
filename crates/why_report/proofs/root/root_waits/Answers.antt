use Rattle.std.proofs.Common.{◌∙◌, ap, sym}
use Rattle.std.proofs.lemmas.Result.{IfOk-weaker}
use Rattle.why_report.specs.Waits.{values}
use Rattle.why_report.proofs.GoalsFound.{quiet_seen, stores_consistent}
use Rattle.why_report.proofs.RootLines.{waiting_text}
use Rattle.why_report.proofs.root.root_waits.Goals as goal

pub why_lines-requires : goal.why_lines-requires
why_lines-requires c =
    let nodes = c.chain-chain.ensures.nodes ∙ ap (λ p. p.templates.nodes) (c.requires.program ∙ ap (λ t. t.program) (sym c.in-Ok.ensures.table)) in
    rw (nodes, c.chain-chain.ensures.stores) (stores_consistent c.in-Ok.view c.chain-chain.ensures.seen
    (quiet_seen c.args.core.now c.in-Ok.view c.in-Ok.ensures.table c.in-Ok.ensures.journal c.chain-chain.ensures.seen c.requires.quiet))

pub returns : goal.returns
returns c =
    let nodes = c.chain-chain.ensures.nodes ∙ ap (λ p. p.templates.nodes) (c.requires.program ∙ ap (λ t. t.program) (sym c.in-Ok.ensures.table)) in
    IfOk-weaker c.why_lines.result _ _ (λ text h. waiting_text c.args.core.now c.args.root c.in-Ok.view c.chain-chain.ensures.seen c.in-Ok.ensures.table c.in-Ok.ensures.journal c.in-Ok.ensures.place c.shown_of.result.now c.shown_of.ensures
    c.args.number (values c.in_ok-waiting.waiting.items) c.in_ok-waiting.ensures text.items h)
    (rw (nodes, c.chain-chain.ensures.stores, c.as_slice.ensures.value) at c.why_lines.ensures)
