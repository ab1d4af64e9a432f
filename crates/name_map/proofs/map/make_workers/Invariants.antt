use Rattle.std.proofs.Common.{◌+◌, ◌-◌, length}
use Rattle.name_map.proofs.Whole.{SameValues}
use Rattle.name_map.proofs.map.make_workers.Given as goal

abbrev pub invariant-loop-alloc : goal.invariant-loop-alloc
invariant-loop-alloc g l = SameValues l.fn.workers.items l.workers.items

abbrev pub decreases-loop-alloc : goal.decreases-loop-alloc
decreases-loop-alloc g l = l.index + 1 - length l.workers.items
