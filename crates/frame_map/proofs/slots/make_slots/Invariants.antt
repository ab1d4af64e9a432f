use Rattle.std.proofs.Common.{◌≡◌, ℕ, ◌+◌, ◌-◌, ◌≤◌, max, length}
use Rattle.name_map.specs.Pages.{within, in_slot}
use Rattle.frame_map.proofs.slots.make_slots.Given as goal

abbrev pub invariant-loop-slots : goal.invariant-loop-slots
invariant-loop-slots g l = (length l.slots.items ≤ max (length l.fn.slots.items) (l.index + 1)) × ((i : ℕ) → within in_slot l.slots.items i ≡ within in_slot l.fn.slots.items i)

abbrev pub decreases-loop-slots : goal.decreases-loop-slots
decreases-loop-slots g l = l.index + 1 - length l.slots.items
