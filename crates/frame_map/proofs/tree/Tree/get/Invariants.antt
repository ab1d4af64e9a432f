use Rattle.std.proofs.Common.{◌≡◌}
use Rattle.frame_map.specs.Contents.{contents, IsTree}
use Rattle.frame_map.proofs.tree.Tree.get.Given as goal

abbrev pub invariant-loop-at : goal.invariant-loop-at
invariant-loop-at g l = IsTree l.at × ((contents l.self).value l.number ≡ (contents l.at).value l.rest)
