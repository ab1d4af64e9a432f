use Rattle.std.proofs.Common.{◌-◌, length}
use Rattle.box_tree.proofs.WaysOut.{HasPassed}
use Rattle.box_tree.proofs.table.Table.way_to.Given as goal

abbrev pub invariant-loop-at : goal.invariant-loop-at
invariant-loop-at l = HasPassed l.self l.fn.name l.at l.way

abbrev pub decreases-loop-at : goal.decreases-loop-at
decreases-loop-at l = length l.self.boxes - length l.way.path.items
