use Rattle.std.proofs.Common.{take}
use Rattle.scheduler.specs.Opening.{AreOpened}
use Rattle.scheduler.specs.Counting.{OpenSomeBySteps}
use Rattle.scheduler.proofs.opening.open_all.Given as goal

abbrev pub invariant-loop-placed : goal.invariant-loop-placed
invariant-loop-placed g l = record {
  opened : AreOpened l.fn.open_places (take l.placed-index l.places) l.open_places l.tokens.items;
  steps : OpenSomeBySteps (take l.placed-index l.places) l.fn.steps l.steps;
}
