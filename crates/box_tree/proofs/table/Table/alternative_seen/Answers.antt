use Rattle.std.proofs.Common.{ap}
use Rattle.box_tree.specs.Tables.{TableValue}
use Rattle.box_tree.proofs.Maps.{found_at}
use Rattle.box_tree.proofs.table.Table.alternative_seen.Goals as goal

pub returns : goal.returns
returns c = c.seen.ensures c.args.self.now (found_at c.args.name c.self.inside.boxes c.args.self.now.boxes c.in-Some.entry.now (ap (λ (v : TableValue). v.boxes) c.self.view_is) c.in-Some.ensures)
