use Rattle.std.proofs.Common.{List, [], subst}
use Rattle.akl_terms.specs.declared.name.Place.{Place}
use Rattle.opened_places.specs.Placed.{PlacedValue}
use Rattle.box_tree.specs.Tables.{TableValue}
use Rattle.scheduler.specs.Placing.{AddsThose}
use Rattle.scheduler.proofs.Starting.{placed_all}
use Rattle.scheduler.proofs.CoreTables.{of_run}
use Rattle.scheduler.proofs.scheduler.placed_places.Goals as goal

pub push_those-requires : goal.push_those-requires
push_those-requires c = of_run c.args.core.now c.table.ensures.core c.table.result.now c.table.ensures.table

pub returns : goal.returns
returns c =
    placed_all c.args.core.now c.in_ok-places.places.items c.push_those.new.those.items c.in_ok-places.ensures
    (subst (λ (v : TableValue). AddsThose v c.in_ok-places.places.items [] c.push_those.new.those.items) c.table.ensures.table
    (subst (λ (ps : List Place). AddsThose c.table.result.now ps [] c.push_those.new.those.items) c.as_slice.ensures.value
    (subst (λ (ps : List PlacedValue). AddsThose c.table.result.now c.as_slice.result.now ps c.push_those.new.those.items) c.new-placed.ensures.items c.in_ok-push_those.ensures)))
