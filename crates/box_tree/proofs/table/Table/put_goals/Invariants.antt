use Rattle.std.proofs.Common.{vec_len}
use Rattle.box_tree.proofs.News.{GoalsCome}
use Rattle.box_tree.proofs.table.Table.put_goals.Given as goal

abbrev pub invariant-loop-name : goal.invariant-loop-name
invariant-loop-name g l = GoalsCome g.T.IntoHeld.held l.fn.self l.self l.home l.number l.fn.goals.items l.left.items

abbrev pub decreases-loop-name : goal.decreases-loop-name
decreases-loop-name g l = vec_len l.left
