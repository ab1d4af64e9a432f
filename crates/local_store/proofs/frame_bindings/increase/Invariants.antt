use Rattle.std.proofs.Common.{length, ◌-◌, ◌<◌, take}
use Rattle.local_store.specs.Kept.{Increase}
use Rattle.local_store.proofs.frame_bindings.increase.Given as goal

abbrev pub invariant-loop-at : goal.invariant-loop-at
invariant-loop-at l = (0 < l.at) × Increase (take l.at l.bindings)

abbrev pub decreases-loop-at : goal.decreases-loop-at
decreases-loop-at l = length l.bindings - l.at
