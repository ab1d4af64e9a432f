use Rattle.std.proofs.Common.{◌≡◌, map, get_or, take}
use Rattle.tree_classes.proofs.classes.block_row.Given as goal

abbrev pub invariant-loop-next : goal.invariant-loop-next
invariant-loop-next l = l.among.items ≡ map (λ j. get_or l.blocks j 0) (take l.next-index l.row)
