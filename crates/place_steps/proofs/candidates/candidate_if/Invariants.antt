use Rattle.std.proofs.Common.{◌≡◌}
use Rattle.box_tree.specs.Tables.{table_of, goals_in}
use Rattle.place_steps.proofs.candidates.candidate_if.Given as goal

-- the goals are those of the box
abbrev pub invariant-loop-goal : goal.invariant-loop-goal
invariant-loop-goal l = l.goal-items ≡ goals_in ((table_of l.fn.core.table).box_of l.fn.name)
