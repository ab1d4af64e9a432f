use Rattle.std.proofs.Common.{◌≡◌, ◌-◌, ◌*◌, ◌^◌, ◌++◌, []}
use Rattle.name_map.specs.Pages.{listed}
use Rattle.frame_map.specs.Contents.{of_children, all_contents}
use Rattle.frame_map.proofs.Heights.{height}
use Rattle.frame_map.proofs.tree.Tree.+push_entries.Given as goal

abbrev pub decreases-push_entries : goal.decreases-push_entries
decreases-push_entries g l = height l.self.now

-- the values of the children so far
abbrev pub invariant-loop-index : goal.invariant-loop-index
invariant-loop-index g l = l.list.items ≡ l.fn.list.items ++ listed l.worker l.first (l.index * 2 ^ l.below) (λ n. (of_children l.below (all_contents l.children.items)).value (n - l.first)) []
