use Rattle.std.proofs.Common.{take}
use Rattle.table_laws.specs.Walks.{ListsEach}
use Rattle.box_tree.specs.Tables.{table_of}
use Rattle.box_tree.proofs.table.Table.inside_all.Given as goal

abbrev pub invariant-loop-name : goal.invariant-loop-name
invariant-loop-name l = ListsEach (table_of l.self) (take l.name-index l.boxes) l.names.items
