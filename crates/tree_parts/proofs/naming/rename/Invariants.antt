use Rattle.std.proofs.Common.{take}
use Rattle.tree_parts.specs.Splits.{AreRenamed}
use Rattle.tree_parts.proofs.naming.rename.Given as goal

abbrev pub invariant-loop-node : goal.invariant-loop-node
invariant-loop-node l = AreRenamed l.fn.names.items l.names.items (take l.node-index l.nodes) l.name
