use Rattle.std.proofs.Common.{◌≡◌, take}
use Rattle.opened_places.specs.Placed.{places_of}
use Rattle.wake_lists.specs.Open.{untimed}
use Rattle.scheduler.specs.Turns.{AreUrgent, StayUrgent}
use Rattle.scheduler.proofs.turns.hurry_opened.Given as goal

abbrev pub invariant-loop-placed : goal.invariant-loop-placed
invariant-loop-placed l = record {
  urgent : AreUrgent l.table l.told (places_of (take l.placed-index l.places)) l.open_places;
  still : StayUrgent l.fn.open_places l.open_places;
  places : untimed l.open_places ≡ untimed l.fn.open_places;
}
