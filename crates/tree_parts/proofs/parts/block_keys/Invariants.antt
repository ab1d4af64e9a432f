use Rattle.std.proofs.Common.{map}
use Rattle.tree_parts.specs.Parts.{AreKeysBefore}
use Rattle.tree_parts.proofs.parts.block_keys.Given as goal

abbrev pub invariant-loop-node : goal.invariant-loop-node
invariant-loop-node l = AreKeysBefore (map (λ v. v.items) l.rows) l.blocks (map (λ k. k.items) l.keys.items) l.node
