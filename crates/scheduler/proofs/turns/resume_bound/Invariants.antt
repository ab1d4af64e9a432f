use Rattle.std.proofs.Common.{◌≡◌}
use Rattle.wake_lists.specs.Open.{untimed}
use Rattle.scheduler.proofs.turns.resume_bound.Given as goal

abbrev pub invariant-loop-variable : goal.invariant-loop-variable
invariant-loop-variable l = untimed l.open_places ≡ untimed l.fn.open_places
