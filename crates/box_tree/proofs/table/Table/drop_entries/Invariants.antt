use Rattle.std.proofs.Common.{take}
use Rattle.box_tree.specs.Edits.{Clears}
use Rattle.box_tree.proofs.table.Table.drop_entries.Given as goal

abbrev pub invariant-loop-name : goal.invariant-loop-name
invariant-loop-name l = Clears l.fn.self l.self (take l.name-index l.names)
