use Rattle.std.proofs.Common.{Option, Some, ap, sym, ◌∙◌}
use Rattle.std.specs.Prelude.{option_map}
use Rattle.akl_model.specs.Changes.{Shape}
use Rattle.table_laws.specs.Rows.{GoalRow}
use Rattle.box_tree.specs.declared.entries.GoalEntry.{GoalEntry}
use Rattle.box_tree.specs.Tables.{TableValue, goal_row}
use Rattle.box_tree.specs.Insides.{since_in}
use Rattle.box_tree.proofs.Maps.{found_at}
use Rattle.box_tree.proofs.table.Table.inner_goal.Goals as goal

pub returns-clause-held : goal.returns-clause-held
returns-clause-held c =
    let t : TableValue = c.args.self.now in
    let found = found_at c.args.name c.self.inside.goals t.goals c.in-Some.entry.now (ap (λ (v : TableValue). v.goals) c.self.view_is) c.in-Some.ensures in
    ap (λ (o : Option GoalEntry). option_map (λ (r : GoalRow). r.shape) (option_map (goal_row t.program.templates.nodes) o)) found ∙ ap (λ (s : Shape). Some s) (sym (c.in_ok-held.ensures.shape t.program.templates.nodes))

pub returns-clause-since : goal.returns-clause-since
returns-clause-since c =
    let t : TableValue = c.args.self.now in
    let found = found_at c.args.name c.self.inside.goals t.goals c.in-Some.entry.now (ap (λ (v : TableValue). v.goals) c.self.view_is) c.in-Some.ensures in
    c.in_ok-held.ensures.since ∙ sym (ap since_in found)
