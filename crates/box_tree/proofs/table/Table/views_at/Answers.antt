use Rattle.std.proofs.Common.{◌++◌, List, [], ◌∷◌, map, sym, ap, subst, ◌∙◌}
use Rattle.std.proofs.lemmas.List.{take_more}
use Rattle.std.specs.List.{AllByRecursion}
use Rattle.akl_terms.specs.declared.name.Place.{Place}
use Rattle.box_tree.specs.Views.{ViewValue}
use Rattle.box_tree.specs.Places.{IsSeenBy}
use Rattle.box_tree.proofs.Within.{all_end, map_end}
use Rattle.box_tree.proofs.table.Table.views_at.Goals as goal

pub loop-place-preserved : goal.loop-place-preserved
loop-place-preserved c =
    let old : List ViewValue = c.loop-place.views.items in
    let x : ViewValue = c.in_ok-view.view in
    let p : Place = Place.Goal (record { worker = 0; number = 0 }) in (
      ap (map (λ (v : ViewValue). v.place)) c.in_ok-push.ensures.items ∙ map_end (λ (v : ViewValue). v.place) old x
          ∙ (λ i. (c.loop-place.invariant.0 i) ++ (c.in_ok-view.ensures.place i) ∷ []) ∙ sym (take_more c.args.places.now c.loop-place.place-index p c.loop-place-test.true),
      subst (AllByRecursion (IsSeenBy c.args.self.now c.args.journal.now.items c.args.worker)) (sym c.in_ok-push.ensures.items)
          (all_end (IsSeenBy c.args.self.now c.args.journal.now.items c.args.worker) old x c.loop-place.invariant.1 c.in_ok-view.ensures.seen),
    )
