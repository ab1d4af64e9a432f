use Rattle.std.proofs.Common.{◌≡◌, ◌++◌}
use Rattle.table_laws.specs.Walks.{alternatives_among, boxes_directly_in}
use Rattle.box_tree.specs.Tables.{table_of}
use Rattle.box_tree.proofs.table.Table.push_inside.Given as goal

abbrev pub invariant-loop-goal : goal.invariant-loop-goal
invariant-loop-goal l = l.names.items ++ alternatives_among (table_of l.self) l.goal-iterator ≡ l.fn.names.items ++ boxes_directly_in (table_of l.self) l.fn.name
