use Rattle.std.proofs.Common.{map}
use Rattle.tree_parts.specs.Parts.{IsPartition}
use Rattle.tree_parts.proofs.Rounds.{slack}
use Rattle.tree_parts.proofs.parts.refine.Given as goal

abbrev pub invariant-loop-blocks : goal.invariant-loop-blocks
invariant-loop-blocks l = IsPartition (map (λ v. v.items) l.rows) l.fn.start.items l.blocks.items

-- a block's first node comes later, or nothing changes
abbrev pub decreases-loop-blocks : goal.decreases-loop-blocks
decreases-loop-blocks l = slack 0 l.blocks.items
