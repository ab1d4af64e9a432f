use Rattle.std.proofs.Common.{List, [], subst}
use Rattle.akl_terms.specs.declared.name.Name.{Name}
use Rattle.akl_model.specs.Config.{IsIn}
use Rattle.opened_places.specs.Inner.{AddsEach}
use Rattle.opened_places.proofs.InnerPlaces.{there_inside, inside_where}
use Rattle.opened_places.proofs.inside.places_inside.Goals as goal

pub inner_places-requires-clause-there : goal.inner_places-requires-clause-there
inner_places-requires-clause-there c = λ m i. there_inside c.args.table.now c.args.name c.requires.run.0 c.requires.run.1 c.in_ok-boxes.boxes.items c.requires.there c.in_ok-boxes.ensures m (subst (IsIn m) c.as_slice.ensures.value i)

pub returns : goal.returns
returns c = inside_where c.args.table.now c.args.name c.in_ok-boxes.boxes.items c.in_ok-places.places.items c.requires.there c.in_ok-boxes.ensures
    (subst (λ (ns : List Name). AddsEach c.args.table.now c.args.name ns [] c.in_ok-places.places.items) c.as_slice.ensures.value c.in_ok-places.ensures)
