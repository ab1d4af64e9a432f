use Rattle.std.proofs.Common.{◌+◌, take, length}
use Rattle.scheduler.specs.Dropping.{DropsWaits}
use Rattle.scheduler.specs.Counting.{DropBySteps}
use Rattle.scheduler.proofs.dropping.drop_gone.Given as goal

abbrev pub invariant-loop-place : goal.invariant-loop-place
invariant-loop-place g l = record {
  waits : DropsWaits l.fn.waits (take l.place-index l.places) l.waits;
  steps : DropBySteps l.fn.waits (take l.place-index l.places) (l.fn.steps + length (take l.place-index l.places)) l.steps;
}
