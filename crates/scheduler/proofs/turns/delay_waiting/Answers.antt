use Rattle.std.proofs.Common.{◌∙◌}
use Rattle.scheduler.proofs.turns.delay_waiting.Goals as goal

pub loop-waited-preserved : goal.loop-waited-preserved
loop-waited-preserved c = record {
  boxes = λ n u. c.delay_goal.ensures.boxes n (c.loop-waited.invariant.boxes n u);
  places = c.delay_goal.ensures.places ∙ c.loop-waited.invariant.places;
}
