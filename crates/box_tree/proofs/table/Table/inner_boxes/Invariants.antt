use Rattle.std.proofs.Common.{◌≡◌, map, take}
use Rattle.std.specs.List.{AllByRecursion}
use Rattle.box_tree.specs.declared.inside.InnerBox.{InnerBox}
use Rattle.box_tree.specs.Insides.{IsInnerBox}
use Rattle.box_tree.proofs.table.Table.inner_boxes.Given as goal

abbrev pub invariant-loop-name : goal.invariant-loop-name
invariant-loop-name l = (map (λ (b : InnerBox). b.name) l.boxes.items ≡ take l.name-index l.names) × AllByRecursion (IsInnerBox l.self) l.boxes.items
