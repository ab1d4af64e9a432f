use Rattle.std.proofs.Common.{◌≡◌}
use Rattle.wake_lists.specs.Open.{untimed}
use Rattle.scheduler.proofs.turns.resume_goals.Given as goal

abbrev pub invariant-loop-goal : goal.invariant-loop-goal
invariant-loop-goal l = untimed l.open_places ≡ untimed l.fn.open_places
