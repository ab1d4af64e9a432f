use Rattle.std.proofs.Common.{List, [], sym, subst}
use Rattle.akl_terms.specs.declared.name.Place.{Place}
use Rattle.scheduler.proofs.SeenOnce.{IsSeenOnce, none_seen, seen_next}
use Rattle.scheduler.proofs.once.first_of_each.Goals as goal

pub loop-place-init : goal.loop-place-init
loop-place-init c =
    subst (λ (l : List Place). IsSeenOnce [] l c.new-seen.result.keys) (sym c.new-once.ensures) (subst (λ (k : List Place). IsSeenOnce [] [] k) (sym c.new-seen.ensures.empty) none_seen)

pub loop-place-preserved : goal.loop-place-preserved
loop-place-preserved c =
    seen_next c.args.places.now c.loop-place.place-index (Place.Goal (record { worker = 0; number = 0 })) c.loop-place.once.items c.loop-place.seen.keys c.push_new.new.seen.keys c.push_new.new.places.items c.loop-place-test.true c.loop-place.invariant
    c.in_ok-push_new.ensures
