use Rattle.std.proofs.Common.{◌≡◌, Option, None, sym, ap, subst, ◌∙◌}
use Rattle.std.specs.Prelude.{option_map}
use Rattle.std.specs.Map.{lookup}
use Rattle.akl_terms.specs.Names.{same_name}
use Rattle.table_laws.specs.Writes.{set, home_in}
use Rattle.box_tree.specs.declared.entries.GoalEntry.{GoalEntry}
use Rattle.box_tree.specs.Tables.{TableValue, table_of, goal_row}
use Rattle.box_tree.specs.Edits.{SetsGoals}
use Rattle.box_tree.proofs.Written.{sets_goal}
use Rattle.box_tree.proofs.table.Table.drop_goal.Goals as goal
use Rattle.box_tree.proofs.table.Table.drop_goal.Goals.{in-Some+in-Choice-1, in-Some+in-Atom-1, in-None}

pub returns-clause-dropped : goal.returns-clause-dropped
returns-clause-dropped c =
    let t : TableValue = record { program = c.self.inside.program.value; query = c.self.inside.query.value; boxes = c.self.inside.boxes; goals = c.self.inside.goals; roots = c.self.inside.roots.items; roots_changed = c.self.inside.roots_changed; marks = c.self.inside.marks; next = c.self.inside.next.items; steps = c.self.inside.steps } in
    subst (λ (v : TableValue). SetsGoals v (record t { goals = c.remove.new.self }) (set c.args.goal None (table_of v).goal_of)) c.self.view_is (sets_goal t c.args.goal c.remove.new.self None c.remove.ensures.gone.finds)

pub returns-clause-home : goal.returns-clause-home
returns-clause-home c =
    let t : TableValue = c.args.self.now in
    let row = λ (o : Option GoalEntry). home_in (option_map (goal_row t.program.templates.nodes) o) in
    let value : c.remove.result ≡ lookup (same_name c.args.goal) t.goals =
    c.remove.ensures.was ∙ ap (λ (v : TableValue). lookup (same_name c.args.goal) v.goals) c.self.view_is in
    elim c.match-remove.branch [
      | in-Some+in-Choice-1 w ↦ w.result-is ∙ ap row (sym w.in-Some.is ∙ value)
      | in-Some+in-Atom-1 w ↦ w.result-is ∙ ap row (sym w.in-Some.is ∙ value)
      | in-None w ↦ w.result-is ∙ ap row (sym w.in-None.is ∙ value)
    ]
