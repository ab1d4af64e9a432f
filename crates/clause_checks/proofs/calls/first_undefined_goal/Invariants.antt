use Rattle.std.proofs.Common.{◌≡◌, map, drop}
use Rattle.akl_syntax.specs.GoalView.{goal}
use Rattle.clause_checks.specs.Rows.{first, key_if_undefined}
use Rattle.clause_checks.proofs.calls.first_undefined_goal.Given as given

abbrev pub invariant-loop-goal : given.invariant-loop-goal
invariant-loop-goal l = first (key_if_undefined l.callees) (map (λ g. goal g.now) (drop l.goal-index l.written)) ≡ first (key_if_undefined l.callees) (map (λ g. goal g.now) l.written)
