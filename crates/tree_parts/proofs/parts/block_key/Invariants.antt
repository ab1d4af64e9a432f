use Rattle.std.proofs.Common.{◌≡◌, take}
use Rattle.tree_parts.specs.Parts.{block_key}
use Rattle.tree_parts.proofs.parts.block_key.Given as goal

abbrev pub invariant-loop-next : goal.invariant-loop-next
invariant-loop-next l = l.key.items ≡ block_key l.blocks l.node (take l.next-index l.row)
