use Rattle.std.proofs.Common.{refl}
use Rattle.akl_terms.specs.declared.name.Place.{Place}
use Rattle.scheduler.proofs.PlacedThose.{those_next}
use Rattle.scheduler.proofs.placing.push_those.Goals as goal

pub loop-place-preserved : goal.loop-place-preserved
loop-place-preserved c =
    those_next c.args.table.now c.args.places.now c.loop-place.place-index (Place.Goal (record { worker = 0; number = 0 })) _ c.args.those.now.items c.loop-place.those.items c.push_place.new.those.items c.loop-place-test.true refl c.loop-place.invariant
    c.in_ok-push_place.ensures
