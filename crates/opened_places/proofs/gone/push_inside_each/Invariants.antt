use Rattle.std.proofs.Common.{take}
use Rattle.box_tree.specs.Tables.{table_of}
use Rattle.opened_places.specs.Gone.{AddsInsideEach}
use Rattle.opened_places.proofs.gone.push_inside_each.Given as goal

abbrev pub invariant-loop-name : goal.invariant-loop-name
invariant-loop-name l = AddsInsideEach (table_of l.table) (take l.name-index l.tops) l.fn.places.items l.places.items
