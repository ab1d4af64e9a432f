use Rattle.std.proofs.Common.{◌≡◌, drop}
use Rattle.box_tree.specs.Tables.{table_of}
use Rattle.box_tree.specs.Insides.{candidate_among}
use Rattle.place_steps.proofs.candidates.candidate_among.Given as goal

abbrev pub invariant-loop-goal : goal.invariant-loop-goal
invariant-loop-goal l = candidate_among (table_of l.table) (drop l.goal-index l.goals) ≡ candidate_among (table_of l.table) l.goals
