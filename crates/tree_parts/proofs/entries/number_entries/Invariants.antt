use Rattle.std.proofs.Common.{map}
use Rattle.tree_parts.specs.Lists.{AreEntries}
use Rattle.tree_parts.proofs.entries.number_entries.Given as goal

abbrev pub invariant-loop-node : goal.invariant-loop-node
invariant-loop-node l = AreEntries (map (λ v. v.items) l.rows) l.entries.nodes.items l.entries.places.items l.entries.nexts.items l.node 0
