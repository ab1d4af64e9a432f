use Rattle.std.proofs.Common.{◌+◌, ◌*◌, map, drop}
use Rattle.akl_syntax.specs.Goals.{goals, parts}
use Rattle.akl_syntax.specs.GoalView.{goal, part}
use Rattle.akl_syntax.specs.Answers.{clauses_view}
use Rattle.akl_syntax.specs.Sizes.{goal_size, goals_size, parts_size}
use Rattle.akl_lift.proofs.Within.{part_weight}
use Rattle.akl_lift.specs.Scopes.{chosen_of, origin_view, definitions_view}
use Rattle.akl_lift.proofs.Turns.{GoalsSoFar, PartsSoFar}
use Rattle.akl_lift.proofs.lifting.+lifting.Given as given

abbrev pub invariant-lift_goals-loop-goal : given.invariant-lift_goals-loop-goal
invariant-lift_goals-loop-goal l =
    GoalsSoFar (origin_view l.origin) l.origin.noted.items l.scope.order.items (chosen_of l.scope) l.fn.out.next (definitions_view l.fn.out) (goals (map goal l.written))
    l.out.next (map goal l.found.items) (definitions_view l.out) (goals (map goal (drop l.goal-index l.written)))

abbrev pub invariant-lift_parts-loop-index : given.invariant-lift_parts-loop-index
invariant-lift_parts-loop-index l =
    PartsSoFar (origin_view l.origin) l.origin.noted.items l.number l.arguments l.fn.out.next (definitions_view l.fn.out) (parts (map part l.written))
    l.out.next (clauses_view l.own) (definitions_view l.out) (parts (map part (drop l.index l.written)))

abbrev pub decreases-lift_goal : given.decreases-lift_goal
decreases-lift_goal l = 8 * goal_size (goal l.written.now)

abbrev pub decreases-lift_goals : given.decreases-lift_goals
decreases-lift_goals l = 8 * goals_size (goals (map goal l.written.now)) + 1

abbrev pub decreases-lift_body : given.decreases-lift_body
decreases-lift_body l = 8 * goals_size (goals (map goal l.written.now.body.items)) + 2

abbrev pub decreases-lift_guard_and_body : given.decreases-lift_guard_and_body
decreases-lift_guard_and_body l = 8 * part_weight l.written.now + 3

abbrev pub decreases-lift_part : given.decreases-lift_part
decreases-lift_part l = 8 * part_weight l.written.now + 4

abbrev pub decreases-lift_parts : given.decreases-lift_parts
decreases-lift_parts l = 8 * parts_size (parts (map part l.written.now)) + 5

abbrev pub decreases-lift_choice : given.decreases-lift_choice
decreases-lift_choice l = 8 * parts_size (parts (map part l.written.now)) + 6

abbrev pub decreases-lift_collected : given.decreases-lift_collected
decreases-lift_collected l = 8 * goals_size (goals (map goal l.written.now)) + 2

abbrev pub decreases-lift_collecting : given.decreases-lift_collecting
decreases-lift_collecting l = 8 * goals_size (goals (map goal l.written.now)) + 3
