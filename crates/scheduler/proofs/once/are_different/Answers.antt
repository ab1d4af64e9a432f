use Rattle.std.proofs.Common.{List, sym, subst, ◌∙◌}
use Rattle.akl_terms.specs.declared.name.Place.{Place}
use Rattle.scheduler.specs.Once.{IsEachPlaceOnce}
use Rattle.scheduler.proofs.CommitFacts.{not_both, place_listed}
use Rattle.scheduler.proofs.once.are_different.Goals as goal

pub loop-place-preserved : goal.loop-place-preserved
loop-place-preserved c = λ once. c.loop-place.invariant
    (subst (λ (ps : List Place). IsEachPlaceOnce ps) (sym c.in-Some.ensures.cases.0) (λ i. not_both (place_listed c.in-Some.place.now c.in-Some.others.now i) (sym c.is_among.ensures ∙ c.if-is_among.false), once))
