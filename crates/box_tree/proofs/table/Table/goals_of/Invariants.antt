use Rattle.std.proofs.Common.{◌≡◌, ◌++◌}
use Rattle.box_tree.specs.Tables.{table_of, goals_in}
use Rattle.box_tree.proofs.table.Table.goals_of.Given as goal

abbrev pub invariant-loop-goal : goal.invariant-loop-goal
invariant-loop-goal l = l.goals.items ++ l.goal-iterator ≡ goals_in ((table_of l.self).box_of l.fn.name)
