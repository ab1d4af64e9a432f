use Rattle.std.proofs.Common.{map}
use Rattle.tree_parts.specs.Splits.{ArePairs}
use Rattle.tree_parts.proofs.early.pairs.Given as goal

abbrev pub invariant-loop-node : goal.invariant-loop-node
invariant-loop-node l = ArePairs l.start l.names (map (λ k. k.items) l.keys.items) l.node
