use Rattle.std.proofs.Common.{◌≡◌, ◌++◌, map, drop}
use Rattle.akl_syntax.specs.Goals.{goals, parts}
use Rattle.akl_syntax.specs.GoalView.{goal, part}
use Rattle.clause_checks.specs.Within.{goals_of_all, goals_of_parts}
use Rattle.clause_checks.proofs.goals.+goals.Given as given

abbrev pub invariant-add_goals-loop-goal : given.invariant-add_goals-loop-goal
invariant-add_goals-loop-goal l =
    map (λ g. goal g.now) l.found.items ++ goals_of_all (goals (map goal (drop l.goal-index l.written))) ≡ map (λ g. goal g.now) l.fn.found.items ++ goals_of_all (goals (map goal l.written))

abbrev pub invariant-add_parts-loop-part : given.invariant-add_parts-loop-part
invariant-add_parts-loop-part l =
    map (λ g. goal g.now) l.found.items ++ goals_of_parts (parts (map part (drop l.part-index l.written))) ≡ map (λ g. goal g.now) l.fn.found.items ++ goals_of_parts (parts (map part l.written))
