use Rattle.std.proofs.Common.{◌≡◌, ◌-◌, ◌++◌, []}
use Rattle.name_map.specs.Pages.{within, in_slot, listed}
use Rattle.frame_map.proofs.slots.push_slots.Given as goal

-- the values of the slots so far
abbrev pub invariant-loop-index : goal.invariant-loop-index
invariant-loop-index g l = l.list.items ≡ l.fn.list.items ++ listed l.worker l.first l.index (λ n. within in_slot l.slots (n - l.first)) []
