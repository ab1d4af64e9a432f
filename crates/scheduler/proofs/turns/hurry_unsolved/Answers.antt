use Rattle.std.proofs.Common.{refl, ◌∙◌}
use Rattle.scheduler.proofs.Hurrying.{boxes_next}
use Rattle.scheduler.proofs.turns.hurry_unsolved.Goals as goal

pub loop-name-preserved : goal.loop-name-preserved
loop-name-preserved c = record {
  urgent = boxes_next c.args.unsolved.now c.loop-name.name-index (record { worker = 0; number = 0 }) _ c.loop-name.open_places c.make_urgent.new.open_places c.loop-name-test.true c.loop-name.invariant.urgent
      refl c.make_urgent.ensures.still c.make_urgent.ensures.now;
  places = c.make_urgent.ensures.places ∙ c.loop-name.invariant.places;
}
