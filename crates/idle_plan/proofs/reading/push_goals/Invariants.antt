use Rattle.std.proofs.Common.{◌≡◌, ◌++◌, take}
use Rattle.split_plan.specs.Read.{goal_items}
use Rattle.idle_plan.proofs.reading.push_goals.Given as goal

abbrev pub invariant-loop-goal : goal.invariant-loop-goal
invariant-loop-goal l = l.items.items ≡ l.fn.items.items ++ goal_items (take l.goal-index l.goals)
