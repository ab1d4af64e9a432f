use Rattle.std.proofs.Common.{ℕ, ◌+◌, ◌-◌, ◌≤◌, max, length}
use Rattle.frame_map.specs.Contents.{of_children, all_contents, AllFit, Same}
use Rattle.frame_map.proofs.tree.make_children.Given as goal

abbrev pub invariant-loop-children : goal.invariant-loop-children
invariant-loop-children g l = record {
  most : length l.children.items ≤ max (length l.fn.children.items) (l.index + 1);
  same : (w : ℕ) → Same (of_children w (all_contents l.fn.children.items)) (of_children w (all_contents l.children.items));
  fit : (w : ℕ) → AllFit w (all_contents l.fn.children.items) → AllFit w (all_contents l.children.items);
}

abbrev pub decreases-loop-children : goal.decreases-loop-children
decreases-loop-children g l = l.index + 1 - length l.children.items
