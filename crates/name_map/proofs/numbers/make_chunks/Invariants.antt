use Rattle.std.proofs.Common.{◌≡◌, ℕ, ◌+◌, ◌-◌, length}
use Rattle.name_map.specs.Pages.{within, in_chunk}
use Rattle.name_map.proofs.numbers.make_chunks.Given as goal

abbrev pub invariant-loop-alloc : goal.invariant-loop-alloc
invariant-loop-alloc g l = (n i : ℕ) → within (in_chunk n) l.chunks.items i ≡ within (in_chunk n) l.fn.chunks.items i

abbrev pub decreases-loop-alloc : goal.decreases-loop-alloc
decreases-loop-alloc g l = l.index + 1 - length l.chunks.items
