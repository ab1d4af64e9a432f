use Rattle.std.proofs.Common.{subst}
use Rattle.box_tree.specs.Kinds.{IsGoal}
use Rattle.box_tree.proofs.table.goal_at.Goals as goal

pub returns-in-Box : goal.returns-in-Box
returns-in-Box c = absurd (subst IsGoal c.in-Box.is c.requires)
