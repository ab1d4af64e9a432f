use Rattle.std.proofs.Common.{◌≡◌, ◌++◌, take}
use Rattle.opened_places.specs.Gone.{goals_named}
use Rattle.opened_places.proofs.gone.push_goals.Given as goal

abbrev pub invariant-loop-goal : goal.invariant-loop-goal
invariant-loop-goal l = l.places.items ≡ l.fn.places.items ++ goals_named (take l.goal-index l.goals)
