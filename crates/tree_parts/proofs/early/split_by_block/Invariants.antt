use Rattle.std.proofs.Common.{map}
use Rattle.tree_parts.specs.Splits.{AreSplitByBlock, AreListed}
use Rattle.tree_parts.proofs.early.split_by_block.Given as goal

abbrev pub invariant-loop-place : goal.invariant-loop-place
invariant-loop-place l = AreSplitByBlock l.entries.nodes.items l.entries.places.items l.entries.nexts.items l.name l.fn.naming.names.items l.naming.names.items × AreListed l.naming.names.items (map (λ v. v.items) l.naming.members.items)
