use Rattle.std.proofs.Common.{◌≡◌, ◌++◌, take}
use Rattle.opened_places.specs.Placed.{goals_placed}
use Rattle.opened_places.proofs.inside.push_goals.Given as goal

abbrev pub invariant-loop-goal : goal.invariant-loop-goal
invariant-loop-goal l = l.places.items ≡ l.fn.places.items ++ goals_placed l.around (take l.goal-index l.goals)
