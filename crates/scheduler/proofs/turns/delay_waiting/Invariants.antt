use Rattle.std.proofs.Common.{◌≡◌}
use Rattle.wake_lists.specs.Open.{untimed}
use Rattle.scheduler.specs.Turns.{BoxesStayUrgent}
use Rattle.scheduler.proofs.turns.delay_waiting.Given as goal

abbrev pub invariant-loop-waited : goal.invariant-loop-waited
invariant-loop-waited l = record {
  boxes : BoxesStayUrgent l.fn.open_places l.open_places;
  places : untimed l.open_places ≡ untimed l.fn.open_places;
}
