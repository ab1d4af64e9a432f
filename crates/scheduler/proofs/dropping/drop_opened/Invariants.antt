use Rattle.std.proofs.Common.{take}
use Rattle.scheduler.specs.Dropping.{DropsWaits, places_under}
use Rattle.scheduler.specs.Counting.{DropBySteps}
use Rattle.scheduler.proofs.dropping.drop_opened.Given as goal

abbrev pub invariant-loop-token : goal.invariant-loop-token
invariant-loop-token g l = record {
  waits : DropsWaits l.fn.waits (places_under (take l.token-index l.tokens) l.open_places) l.waits;
  steps : DropBySteps l.fn.waits (places_under (take l.token-index l.tokens) l.open_places) l.fn.steps l.steps;
}
