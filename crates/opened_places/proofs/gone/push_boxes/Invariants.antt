use Rattle.std.proofs.Common.{◌≡◌, ◌++◌, take}
use Rattle.box_tree.specs.Tables.{table_of}
use Rattle.opened_places.specs.Gone.{places_at}
use Rattle.opened_places.proofs.gone.push_boxes.Given as goal

abbrev pub invariant-loop-name : goal.invariant-loop-name
invariant-loop-name l = l.places.items ≡ l.fn.places.items ++ places_at (table_of l.table) (take l.name-index l.boxes)
