use Rattle.std.proofs.Common.{◌≡◌, ◌++◌, List}
use Rattle.akl_terms.specs.declared.name.Name.{Name}
use Rattle.box_tree.specs.Drops.{DropsGoals}
use Rattle.box_tree.proofs.table.Table.drop_goals.Given as goal

abbrev pub invariant-loop-goal : goal.invariant-loop-goal
invariant-loop-goal l = (done : List Name) × (done ++ l.goal-iterator ≡ l.fn.goals.keys) × DropsGoals l.fn.self l.self done
