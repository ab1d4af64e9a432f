use Rattle.std.proofs.Common.{◌≡◌, take}
use Rattle.box_tree.proofs.News.{firsts}
use Rattle.box_tree.proofs.named.goal_set.Given as goal

abbrev pub invariant-loop-name : goal.invariant-loop-name
invariant-loop-name g l = l.names.keys ≡ firsts (take l.name-index l.goals)
