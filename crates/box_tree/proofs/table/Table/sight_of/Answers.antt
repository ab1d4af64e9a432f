use Rattle.std.proofs.Common.{ap}
use Rattle.box_tree.specs.Tables.{TableValue}
use Rattle.box_tree.proofs.Maps.{found_at}
use Rattle.box_tree.proofs.Looks.{goal_sight, box_sight}
use Rattle.box_tree.proofs.table.Table.sight_of.Goals as goal

pub returns-in-Some : goal.returns-in-Some
returns-in-Some c = rw c.in-Goal.is
    (goal_sight c.args.self.now c.in-Goal.name c.in-Some.entry.now c.sight_held.result c.sight_held.ensures (found_at c.in-Goal.name c.self.inside.goals c.args.self.now.goals c.in-Some.entry.now (ap (λ (v : TableValue). v.goals) c.self.view_is) c.in-Some.ensures))

pub returns-in-Some-get : goal.returns-in-Some-get
returns-in-Some-get c = rw c.in-Box.is
    (box_sight c.args.self.now c.in-Box.name c.in-Some-get.entry.now (found_at c.in-Box.name c.self.inside.boxes c.args.self.now.boxes c.in-Some-get.entry.now (ap (λ (v : TableValue). v.boxes) c.self.view_is) c.in-Some-get.ensures))
