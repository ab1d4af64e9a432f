use Rattle.std.proofs.Common.{◌≡◌, ◌++◌, map, take}
use Rattle.akl_terms.specs.declared.name.Place.{Place}
use Rattle.box_tree.proofs.table.Table.push_goals.Given as goal

abbrev pub invariant-loop-name : goal.invariant-loop-name
invariant-loop-name l = l.places.items ≡ l.fn.places.items ++ map Place.Goal (take l.name-index l.name-items)
