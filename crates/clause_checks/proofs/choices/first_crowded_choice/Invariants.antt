use Rattle.std.proofs.Common.{◌≡◌, map, drop}
use Rattle.akl_syntax.specs.GoalView.{goal}
use Rattle.clause_checks.specs.Rows.{first, too_many_parts}
use Rattle.clause_checks.proofs.choices.first_crowded_choice.Given as given

abbrev pub invariant-loop-goal : given.invariant-loop-goal
invariant-loop-goal l = first too_many_parts (map (λ g. goal g.now) (drop l.goal-index l.written)) ≡ first too_many_parts (map (λ g. goal g.now) l.written)
