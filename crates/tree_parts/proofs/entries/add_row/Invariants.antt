use Rattle.std.proofs.Common.{map}
use Rattle.tree_parts.specs.Lists.{AreEntries}
use Rattle.tree_parts.proofs.entries.add_row.Given as goal

abbrev pub invariant-loop-place : goal.invariant-loop-place
invariant-loop-place l = AreEntries (map (λ v. v.items) l.rows) l.entries.nodes.items l.entries.places.items l.entries.nexts.items l.node l.place
