use Rattle.std.proofs.Common.{◌≡◌, ◌++◌, List, [], ◌∷◌, ◌∙◌, subst}
use Rattle.akl_terms.specs.declared.name.Name.{Name}
use Rattle.akl_terms.specs.declared.name.Place.{Place}
use Rattle.opened_places.specs.Placed.{placed, goals_placed}
use Rattle.opened_places.proofs.Members.{firsts}
use Rattle.opened_places.proofs.PushedPlaces.{new_next}
use Rattle.opened_places.proofs.places.push_new.Goals as goal

pub loop-made-preserved : goal.loop-made-preserved
loop-made-preserved c = record {
  placed = λ nodes. new_next nodes c.args.around.now c.args.boxes.now c.loop-made.made-index c.made-item.result c.args.places.now.items c.loop-made.places.items c.push_new_box.new.places.items c.loop-made-test.true c.made-item.is (c.loop-made.invariant.placed nodes)
      (subst (λ (path : List Name). c.push_new_box.new.places.items ≡ c.loop-made.places.items ++ (placed (Place.Box c.made-item.result.name) path ∷ goals_placed (path ++ c.made-item.result.name ∷ []) (firsts c.made-item.result.goals.items))) c.loop-made.invariant.path c.in_ok-push_new_box.ensures.placed);
  path = c.in_ok-push_new_box.ensures.path ∙ c.loop-made.invariant.path;
}
