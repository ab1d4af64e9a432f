use Rattle.std.proofs.Common.{◌≡◌, ℕ, ◌+◌, ◌-◌, vec_len, slice_index}
use Rattle.box_tree.proofs.drawing.pad.Given as goal

abbrev pub invariant-loop-next : goal.invariant-loop-next
invariant-loop-next l = (w : ℕ) → slice_index l.next.items w ≡ slice_index l.fn.next.items w

abbrev pub decreases-loop-next : goal.decreases-loop-next
decreases-loop-next l = l.worker + 1 - vec_len l.next
