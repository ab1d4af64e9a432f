use Rattle.std.proofs.Common.{Some, ap, ◌∙◌}
use Rattle.box_tree.specs.Tables.{TableValue}
use Rattle.box_tree.proofs.Maps.{found_at}
use Rattle.box_tree.proofs.Stamping.{store_stamp, goals_stamp, goal_stamp}
use Rattle.box_tree.proofs.table.Table.stamp.Goals as goal

pub returns-in-Some : goal.returns-in-Some
returns-in-Some c = rw c.in-Store.is
    (ap Some c.store_mark.ensures ∙ store_stamp c.args.self.now c.in-Store.name c.in-Some.entry.now (found_at c.in-Store.name c.self.inside.boxes c.args.self.now.boxes c.in-Some.entry.now (ap (λ (v : TableValue). v.boxes) c.self.view_is) c.in-Some.ensures))

pub returns-in-Some-get : goal.returns-in-Some-get
returns-in-Some-get c = rw c.in-Goals.is
    (goals_stamp c.args.self.now c.in-Goals.name c.in-Some-get.entry.now (found_at c.in-Goals.name c.self.inside.boxes c.args.self.now.boxes c.in-Some-get.entry.now (ap (λ (v : TableValue). v.boxes) c.self.view_is) c.in-Some-get.ensures))

pub returns-in-Some-get-2 : goal.returns-in-Some-get-2
returns-in-Some-get-2 c = rw c.in-Goal.is
    (goal_stamp c.args.self.now c.in-Goal.name c.in-Some-get-2.entry.now (found_at c.in-Goal.name c.self.inside.goals c.args.self.now.goals c.in-Some-get-2.entry.now (ap (λ (v : TableValue). v.goals) c.self.view_is) c.in-Some-get-2.ensures))

pub returns-in-Binding : goal.returns-in-Binding
returns-in-Binding c = rw c.in-Binding.is (ap Some c.mark_of.ensures)
