use Rattle.std.proofs.Common.{◌≡◌, ◌+◌, ◌++◌, drop}
use Rattle.guard_plan.specs.Guards.{numbered_goals}
use Rattle.guard_plan.proofs.promoting.numbered.Given as goal

abbrev pub invariant-loop-goal : goal.invariant-loop-goal
invariant-loop-goal l = (l.goals.items ++ numbered_goals l.first.worker l.number (drop l.goal-index l.body) ≡ numbered_goals l.first.worker l.first.number l.body) × (l.number ≡ l.first.number + l.goal-index)
