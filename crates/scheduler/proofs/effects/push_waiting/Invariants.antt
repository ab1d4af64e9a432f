use Rattle.std.proofs.Common.{◌≡◌, ◌++◌}
use Rattle.wake_lists.specs.Waits.{places_at}
use Rattle.scheduler.proofs.effects.push_waiting.Given as goal

abbrev pub invariant-loop-place : goal.invariant-loop-place
invariant-loop-place l = l.places.items ++ l.place-iterator ≡ l.fn.places.items ++ places_at l.fn.variable l.waits
