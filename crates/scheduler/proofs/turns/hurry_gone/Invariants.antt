use Rattle.std.proofs.Common.{◌≡◌}
use Rattle.wake_lists.specs.Open.{untimed}
use Rattle.scheduler.proofs.turns.hurry_gone.Given as goal

abbrev pub invariant-loop-place : goal.invariant-loop-place
invariant-loop-place l = untimed l.open_places ≡ untimed l.fn.open_places
