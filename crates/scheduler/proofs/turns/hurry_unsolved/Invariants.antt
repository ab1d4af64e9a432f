use Rattle.std.proofs.Common.{◌≡◌, take}
use Rattle.wake_lists.specs.Open.{untimed}
use Rattle.scheduler.specs.Turns.{AreUrgentBoxes}
use Rattle.scheduler.proofs.turns.hurry_unsolved.Given as goal

abbrev pub invariant-loop-name : goal.invariant-loop-name
invariant-loop-name l = record {
  urgent : AreUrgentBoxes (take l.name-index l.unsolved) l.open_places;
  places : untimed l.open_places ≡ untimed l.fn.open_places;
}
