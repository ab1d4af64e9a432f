use Rattle.std.proofs.Common.{◌≡◌, ℕ, ◌-◌, length}
use Rattle.name_map.specs.Pages.{within, in_slot}
use Rattle.name_map.proofs.page.make_slots.Given as goal

abbrev pub invariant-loop-slots : goal.invariant-loop-slots
invariant-loop-slots g l = (i : ℕ) → within in_slot l.slots.items i ≡ within in_slot l.fn.slots.items i

abbrev pub decreases-loop-slots : goal.decreases-loop-slots
decreases-loop-slots g l = 8 - length l.slots.items
