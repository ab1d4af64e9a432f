use Rattle.std.proofs.Common.{ap, refl, sym}
use Rattle.box_tree.specs.Tables.{TableValue}
use Rattle.box_tree.proofs.Maps.{found_at}
use Rattle.box_tree.proofs.Looks.{box_sight}
use Rattle.box_tree.proofs.table.Table.standing_at_box.Goals as goal

pub returns-clause-standing : goal.returns-clause-standing
returns-clause-standing c =
    let there = found_at c.args.name c.self.inside.boxes c.args.self.now.boxes c.in-Some.entry.now (ap (λ (v : TableValue). v.boxes) c.self.view_is) c.in-Some.ensures in
    record { sight = sym (box_sight c.args.self.now c.args.name c.in-Some.entry.now there); entry = there; alternatives = refl }
