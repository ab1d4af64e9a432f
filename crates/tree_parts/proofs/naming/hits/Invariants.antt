use Rattle.std.proofs.Common.{map, take}
use Rattle.tree_parts.specs.Splits.{AreHits}
use Rattle.tree_parts.proofs.naming.hits.Given as goal

abbrev pub invariant-loop-node : goal.invariant-loop-node
invariant-loop-node l = AreHits l.names (map (λ v. v.items) l.into) l.name (take l.node-index l.nodes) l.hits.items
