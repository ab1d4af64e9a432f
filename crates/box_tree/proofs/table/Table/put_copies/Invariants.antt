use Rattle.std.proofs.Common.{vec_len}
use Rattle.box_tree.proofs.Copied.{CopiesCome}
use Rattle.box_tree.proofs.table.Table.put_copies.Given as goal

abbrev pub invariant-loop-copy : goal.invariant-loop-copy
invariant-loop-copy l = CopiesCome l.fn.self l.self l.holder l.at l.number l.fn.copies.items l.left.items

abbrev pub decreases-loop-copy : goal.decreases-loop-copy
decreases-loop-copy l = vec_len l.left
