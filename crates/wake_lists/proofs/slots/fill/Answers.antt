use Rattle.std.proofs.Common.{ap, ◌∙◌}
use Rattle.wake_lists.specs.Slots.{filled}
use Rattle.wake_lists.proofs.Filled.{grown}
use Rattle.wake_lists.proofs.slots.fill.Goals as goal

pub loop-slots-preserved : goal.loop-slots-preserved
loop-slots-preserved g c = ap filled c.in_ok-push.ensures.items ∙ grown c.loop-slots.slots.items ∙ c.loop-slots.invariant
