use Rattle.std.proofs.Common.{List, ap, subst, ◌∙◌, ◌++◌, arith}
use Rattle.std.proofs.lemmas.List.{take_all, take_more}
use Rattle.akl_terms.specs.declared.name.Name.{Name}
use Rattle.box_tree.specs.Tables.{table_of}
use Rattle.opened_places.specs.Gone.{AddsInsideEach, places_at}
use Rattle.opened_places.proofs.PushedPlaces.{inside_next}
use Rattle.opened_places.proofs.gone.push_inside_each.Goals as goal

pub loop-name-preserved : goal.loop-name-preserved
loop-name-preserved c =
    inside_next (table_of c.args.table.now) c.args.tops.now c.loop-name.name-index _ c.args.places.now.items c.loop-name.places.items c.push_boxes.new.places.items c.in_ok-boxes.boxes.items
    (take_more c.args.tops.now c.loop-name.name-index (record { worker = 0; number = 0 }) c.loop-name-test.true) c.loop-name.invariant c.in_ok-boxes.ensures
    (c.in_ok-push_boxes.ensures ∙ ap (λ (ns : List Name). c.loop-name.places.items ++ places_at (table_of c.args.table.now) ns) c.as_slice.ensures.value)

pub returns : goal.returns
returns c = subst (λ (ns : List Name). AddsInsideEach (table_of c.args.table.now) ns c.args.places.now.items c.loop-name.places.items)
    (take_all c.loop-name.name-index c.args.tops.now (let end = c.loop-name-test.false in omega (arith, end))) c.loop-name.invariant
