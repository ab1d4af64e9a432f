use Rattle.std.proofs.Common.{◌+◌, ◌*◌, map, drop}
use Rattle.akl_syntax.specs.Goals.{goals, parts}
use Rattle.akl_syntax.specs.GoalView.{goal, part}
use Rattle.akl_syntax.specs.Sizes.{goal_size, goals_size, parts_size}
use Rattle.variable_scopes.specs.Numbering.{state}
use Rattle.variable_scopes.proofs.GoalLists.{GoalsGoing, PartsGoing}
use Rattle.variable_scopes.proofs.goals.+goals.Given as given

abbrev pub invariant-numbered_goals-loop-goal : given.invariant-numbered_goals-loop-goal
invariant-numbered_goals-loop-goal l = GoalsGoing (state l.fn.numbering) l.written (state l.numbering) l.found.items (drop l.goal-index l.written)

abbrev pub invariant-numbered_parts-loop-part : given.invariant-numbered_parts-loop-part
invariant-numbered_parts-loop-part l = PartsGoing (state l.fn.numbering) l.written (state l.numbering) l.found.items (drop l.part-index l.written)

abbrev pub decreases-numbered_goal : given.decreases-numbered_goal
decreases-numbered_goal l = 3 * goal_size (goal l.written.now)

abbrev pub decreases-numbered_goals : given.decreases-numbered_goals
decreases-numbered_goals l = 3 * goals_size (goals (map goal l.written.now)) + 1

abbrev pub decreases-numbered_inside : given.decreases-numbered_inside
decreases-numbered_inside l = 3 * goals_size (goals (map goal l.written.now)) + 2

abbrev pub decreases-numbered_parts : given.decreases-numbered_parts
decreases-numbered_parts l = 3 * parts_size (parts (map part l.written.now)) + 2
