use Rattle.std.proofs.Common.{◌≡◌, map, drop}
use Rattle.akl_syntax.specs.Goals.{goals, parts}
use Rattle.akl_syntax.specs.GoalView.{goal, part}
use Rattle.clause_checks.specs.Rows.{first_wide_in_goals, first_wide_in_parts}
use Rattle.clause_checks.proofs.arguments.+goals.Given as given

abbrev pub invariant-first_wide_in_goals-loop-goal : given.invariant-first_wide_in_goals-loop-goal
invariant-first_wide_in_goals-loop-goal l = first_wide_in_goals (goals (map goal (drop l.goal-index l.written))) ≡ first_wide_in_goals (goals (map goal l.written))

abbrev pub invariant-first_wide_in_parts-loop-part : given.invariant-first_wide_in_parts-loop-part
invariant-first_wide_in_parts-loop-part l = first_wide_in_parts (parts (map part (drop l.part-index l.written))) ≡ first_wide_in_parts (parts (map part l.written))
