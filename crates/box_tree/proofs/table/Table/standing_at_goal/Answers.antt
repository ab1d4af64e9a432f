use Rattle.std.proofs.Common.{ap, refl}
use Rattle.box_tree.specs.Tables.{TableValue}
use Rattle.box_tree.proofs.Maps.{found_at}
use Rattle.box_tree.proofs.Looks.{goal_standing}
use Rattle.box_tree.proofs.table.Table.standing_at_goal.Goals as goal

pub returns-clause-standing : goal.returns-clause-standing
returns-clause-standing c =
    let there = found_at c.args.name c.self.inside.goals c.args.self.now.goals c.in-Some.goal.now (ap (λ (v : TableValue). v.goals) c.self.view_is) c.in-Some.ensures in
    let home = found_at c.in-Some.goal.now.home c.self.inside.boxes c.args.self.now.boxes c.in-Some-get.entry.now (ap (λ (v : TableValue). v.boxes) c.self.view_is) c.in-Some-get.ensures in
    goal_standing c.args.self.now c.args.name c.in-Some.goal.now _ there c.sight_held.ensures home refl (c.alternatives.ensures _)
