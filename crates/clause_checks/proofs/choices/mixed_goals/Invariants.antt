use Rattle.std.proofs.Common.{◌≡◌, map, drop}
use Rattle.std.specs.List.{list_any}
use Rattle.akl_syntax.specs.GoalView.{goal}
use Rattle.clause_checks.specs.Rows.{mixed_choice}
use Rattle.clause_checks.proofs.choices.mixed_goals.Given as given

abbrev pub invariant-loop-goal : given.invariant-loop-goal
invariant-loop-goal l = list_any mixed_choice (map (λ g. goal g.now) (drop l.goal-index l.written)) ≡ list_any mixed_choice (map (λ g. goal g.now) l.written)
