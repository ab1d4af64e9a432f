use Rattle.std.proofs.Common.{ap, ◌∙◌}
use Rattle.opened_places.specs.Placed.{PlacedValue}
use Rattle.scheduler.proofs.Hurrying.{urgent_next}
use Rattle.scheduler.proofs.turns.hurry_opened.Goals as goal

pub loop-placed-preserved : goal.loop-placed-preserved
loop-placed-preserved c = record {
  urgent = urgent_next c.args.table.now c.args.told c.args.places.now c.loop-placed.placed-index c.placed-item.result c.place.result c.loop-placed.open_places c.hurry_place.new.open_places c.loop-placed-test.true c.loop-placed.invariant.urgent
      (c.place.ensures ∙ ap (λ (p : PlacedValue). p.place) c.placed-item.is) c.hurry_place.ensures.still c.hurry_place.ensures.now;
  still = λ p u. c.hurry_place.ensures.still p (c.loop-placed.invariant.still p u);
  places = c.hurry_place.ensures.places ∙ c.loop-placed.invariant.places;
}
