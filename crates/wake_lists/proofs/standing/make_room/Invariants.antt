use Rattle.std.proofs.Common.{◌≡◌, ℕ, ◌+◌, ◌-◌, length}
use Rattle.wake_lists.specs.Standing.{names_in, boxes_at}
use Rattle.wake_lists.proofs.standing.make_room.Given as goal

abbrev pub invariant-loop-alloc : goal.invariant-loop-alloc
invariant-loop-alloc l = (t : ℕ) → boxes_at t (names_in l.boxes.items) ≡ boxes_at t (names_in l.fn.boxes.items)

abbrev pub decreases-loop-alloc : goal.decreases-loop-alloc
decreases-loop-alloc l = l.token + 1 - length l.boxes.items
