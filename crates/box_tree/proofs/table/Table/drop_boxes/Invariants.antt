use Rattle.std.proofs.Common.{take}
use Rattle.box_tree.specs.Drops.{DropsBoxes}
use Rattle.box_tree.proofs.table.Table.drop_boxes.Given as goal

abbrev pub invariant-loop-name : goal.invariant-loop-name
invariant-loop-name l = DropsBoxes l.fn.self l.self (take l.name-index l.names)
