use Rattle.std.proofs.Common.{drop}
use Rattle.box_tree.proofs.Joined.{IsUnsetBy}
use Rattle.box_tree.proofs.table.Table.drop_alternatives.Given as goal

-- what is left to do comes to the same
abbrev pub invariant-loop-name : goal.invariant-loop-name
invariant-loop-name l = IsUnsetBy l.fn.self l.self l.names (drop l.name-index l.names)
