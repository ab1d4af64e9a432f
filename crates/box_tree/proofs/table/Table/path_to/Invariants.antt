use Rattle.std.proofs.Common.{◌-◌, length}
use Rattle.box_tree.proofs.Looks.{Climb}
use Rattle.box_tree.proofs.table.Table.path_to.Given as goal

abbrev pub invariant-loop-home : goal.invariant-loop-home
invariant-loop-home l = Climb l.self l.fn.name l.at l.path.items

abbrev pub decreases-loop-home : goal.decreases-loop-home
decreases-loop-home l = length l.self.boxes - length l.path.items
