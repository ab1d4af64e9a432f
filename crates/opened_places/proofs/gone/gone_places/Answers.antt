use Rattle.std.proofs.Common.{◌++◌, List, ap, subst, ◌∙◌}
use Rattle.akl_terms.specs.declared.name.Name.{Name}
use Rattle.akl_terms.specs.declared.name.Place.{Place}
use Rattle.box_tree.specs.Tables.{table_of}
use Rattle.opened_places.specs.Gone.{places_at, AddsInsideEach}
use Rattle.opened_places.proofs.GoneListed.{listed_gone}
use Rattle.opened_places.proofs.gone.gone_places.Goals as goal

pub returns : goal.returns
returns c =
    let T = table_of c.args.table.now in
    let adds : AddsInsideEach T c.in_ok-tops.tops.items c.own_places-places.result.items c.push_inside_each.new.places.items =
    subst (λ (ns : List Name). AddsInsideEach T ns c.own_places-places.result.items c.push_inside_each.new.places.items) c.as_slice.ensures c.in_ok-push_inside_each.ensures in
    listed_gone c.args.table.now c.args.label c.args.step.now c.in_ok-tops.tops.items adds.boxes c.push_inside_each.new.places.items c.in_ok-tops.ensures adds.lists
    (λ nodes s. adds.comes ∙ ap (λ (ps : List Place). ps ++ places_at T adds.boxes) (c.own_places-places.ensures nodes s))
