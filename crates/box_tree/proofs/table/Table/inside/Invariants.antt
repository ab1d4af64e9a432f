use Rattle.std.proofs.Common.{◌+◌, ◌-◌, length}
use Rattle.table_laws.proofs.Walks.{Walk}
use Rattle.box_tree.specs.Tables.{table_of}
use Rattle.box_tree.proofs.table.Table.inside.Given as goal

abbrev pub invariant-loop-at : goal.invariant-loop-at
invariant-loop-at l = Walk (table_of l.self) l.fn.name l.names.items l.at

abbrev pub decreases-loop-at : goal.decreases-loop-at
decreases-loop-at l = length l.self.boxes + 1 - l.at
