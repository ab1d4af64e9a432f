use Rattle.std.proofs.Common.{ℕ, [], ◌∷◌, ◌++◌, sym, ap, ◌∙◌}
use Rattle.akl_terms.specs.declared.name.Place.{Place}
use Rattle.opened_places.specs.Placed.{PlacedValue}
use Rattle.scheduler.proofs.ListedOthers.{staying_comes, staying_goes}
use Rattle.scheduler.proofs.effects.push_staying.Goals.{then-not-is_among+in_ok-push, else-not-is_among}
use Rattle.scheduler.proofs.effects.push_staying.Goals as goal

pub loop-placed-preserved : goal.loop-placed-preserved
loop-placed-preserved c =
    let at : ℕ = c.loop-placed.placed-index in
    let is : _ = c.place.ensures ∙ ap (λ (p : PlacedValue). p.place) c.placed-item.is in
    elim c.if-not-is_among.branch [
      | then-not-is_among+in_ok-push w ↦
          ap (λ v. v.items) w.places-is ∙ staying_comes c.args.gone.now c.args.inside.now at c.placed-item.result c.place.result c.args.places.now.items c.loop-placed.places.items w.push.new.self.items c.loop-placed-test.true is
          (sym c.is_among.ensures ∙ w.if-not-is_among.true) c.loop-placed.invariant
          (w.in_ok-push.ensures ∙ ap (λ (q : Place). c.loop-placed.places.items ++ q ∷ []) (w.place-then-not-is_among.ensures ∙ sym c.place.ensures))
      | else-not-is_among w ↦
          ap (λ v. v.items) w.places-is ∙ staying_goes c.args.gone.now c.args.inside.now at c.placed-item.result c.place.result c.args.places.now.items c.loop-placed.places.items c.loop-placed-test.true is
          (sym c.is_among.ensures ∙ w.if-not-is_among.false) c.loop-placed.invariant
    ]
