use Rattle.frame_map.proofs.tree.Tree.+change.Given as goal

abbrev pub decreases-change : goal.decreases-change
decreases-change g l = l.width
