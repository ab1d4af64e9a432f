use Rattle.std.proofs.Common.{◌≡◌, ◌++◌, take}
use Rattle.box_tree.specs.Places.{goal_places}
use Rattle.box_tree.proofs.inside.push_goal_places.Given as goal

abbrev pub invariant-loop-goal : goal.invariant-loop-goal
invariant-loop-goal l = l.places.items ≡ l.fn.places.items ++ goal_places (take l.goal-index l.goals)
