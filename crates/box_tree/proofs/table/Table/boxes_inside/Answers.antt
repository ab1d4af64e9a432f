use Rattle.std.proofs.Common.{◌∙◌}
use Rattle.box_tree.proofs.Within.{boxes_listed}
use Rattle.box_tree.proofs.table.Table.boxes_inside.Goals as goal

pub returns : goal.returns
returns c = boxes_listed c.args.self.now c.args.name c.in_ok-names.names.items c.in_ok-names.ensures c.in_ok-boxes.boxes.items (c.in_ok-boxes.ensures.names ∙ c.as_slice.ensures.value) c.in_ok-boxes.ensures.rows
