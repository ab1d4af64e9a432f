use Rattle.std.proofs.Common.{ap}
use Rattle.std.specs.Prelude.{option_map}
use Rattle.box_tree.specs.Tables.{TableValue, box_row}
use Rattle.box_tree.proofs.Maps.{found_at}
use Rattle.box_tree.proofs.table.Table.left_at.Goals as goal

pub returns-in-Some-get : goal.returns-in-Some-get
returns-in-Some-get c = record {
  home_is = cc;
  row = box_row c.args.self.now.program.templates.nodes c.in-Some-get.entry.now;
  there = ap (option_map (box_row c.args.self.now.program.templates.nodes))
      (found_at c.in-Some.home c.self.inside.boxes c.args.self.now.boxes c.in-Some-get.entry.now (ap (λ (v : TableValue). v.boxes) c.self.view_is) c.in-Some-get.ensures);
  number_is = c.store_mark.ensures;
}
