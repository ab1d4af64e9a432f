use Rattle.std.proofs.Common.{map}
use Rattle.tree_parts.specs.Splits.{AreSplit, AreListed}
use Rattle.tree_parts.proofs.naming.split_by.Given as goal

abbrev pub invariant-loop-place : goal.invariant-loop-place
invariant-loop-place l = AreSplit l.fn.naming.names.items l.naming.names.items l.nodes × AreListed l.naming.names.items (map (λ v. v.items) l.naming.members.items)
