use Rattle.std.proofs.Common.{sym, ◌∙◌}
use Rattle.local_store.proofs.Steps.{is_named-next, is_named-here}
use Rattle.local_store.proofs.listed.is_among.Goals as goal

pub returns-then-eq : goal.returns-then-eq
returns-then-eq c = is_named-here c.args.frames.now c.loop-other.other-index _ c.args.frame c.loop-other-test.true (sym c.eq.ensures ∙ c.if-eq.true)

pub loop-other-preserved : goal.loop-other-preserved
loop-other-preserved c = is_named-next c.args.frames.now c.loop-other.other-index _ c.args.frame c.loop-other-test.true c.loop-other.invariant (sym c.eq.ensures ∙ c.if-eq.false)
