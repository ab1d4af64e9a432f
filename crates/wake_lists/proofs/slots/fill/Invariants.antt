use Rattle.std.proofs.Common.{◌≡◌, ◌+◌, ◌-◌, vec_len}
use Rattle.wake_lists.specs.Slots.{filled}
use Rattle.wake_lists.proofs.slots.fill.Given as goal

abbrev pub invariant-loop-slots : goal.invariant-loop-slots
invariant-loop-slots g l = filled l.slots.items ≡ filled l.fn.slots.items

abbrev pub decreases-loop-slots : goal.decreases-loop-slots
decreases-loop-slots g l = l.index + 1 - vec_len l.slots
