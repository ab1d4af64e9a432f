use Rattle.std.proofs.Common.{◌≡◌, Option, Some, sym, ap, ◌∙◌, subst}
use Rattle.std.specs.Prelude.{option_map}
use Rattle.std.specs.Option.{option_copied_mut}
use Rattle.std.specs.Map.{lookup}
use Rattle.akl_terms.specs.Names.{same_name}
use Rattle.akl_model.specs.Changes.{Shape}
use Rattle.table_laws.specs.Writes.{set, left_row}
use Rattle.box_tree.specs.declared.entries.GoalEntry.{GoalEntry}
use Rattle.box_tree.specs.Tables.{TableValue, table_of, goal_row}
use Rattle.box_tree.specs.Edits.{SetsGoals}
use Rattle.box_tree.specs.Drops.{emptied_home}
use Rattle.name_map.proofs.Lent.{on_some}
use Rattle.box_tree.proofs.Maps.{put_there}
use Rattle.box_tree.proofs.Written.{writes_goal}
use Rattle.box_tree.proofs.table.Table.lose_alternative.Goals as goal

pub returns-clause-lost : goal.returns-clause-lost
returns-clause-lost c =
    let t : TableValue = record { program = c.self.inside.program.value; query = c.self.inside.query.value; boxes = c.self.inside.boxes; goals = c.self.inside.goals; roots = c.self.inside.roots.items; roots_changed = c.self.inside.roots_changed; marks = c.self.inside.marks; next = c.self.inside.next.items; steps = c.self.inside.steps } in
    let old : GoalEntry = c.in-Some.entry.now in
    let is : lookup (same_name c.args.goal) c.self.inside.goals ≡ Some old = sym c.get_mut.ensures.value ∙ ap option_copied_mut c.in-Some.is in
    let new : GoalEntry = record { home = old.home; held = c.lose.new.self; changed = c.args.number } in
    subst (λ (v : TableValue). SetsGoals v (record t { goals = c.get_mut.follows.lender new }) (set c.args.goal (option_map (left_row c.args.name c.args.number) ((table_of v).goal_of c.args.goal)) (table_of v).goal_of)) c.self.view_is
    (writes_goal t c.args.goal (c.get_mut.follows.lender new) (left_row c.args.name c.args.number) old new is (on_some c.get_mut.result _ c.in-Some.is (c.get_mut.follows.holds new)).finds
    (ap (λ (s : Shape). record (goal_row t.program.templates.nodes new) { shape = s }) (c.lose.ensures t.program.templates.nodes)))

pub returns-clause-home : goal.returns-clause-home
returns-clause-home c =
    let old : GoalEntry = c.in-Some.entry.now in
    let is : lookup (same_name c.args.goal) c.self.inside.goals ≡ Some old = sym c.get_mut.ensures.value ∙ ap option_copied_mut c.in-Some.is in
    let new : GoalEntry = record { home = old.home; held = c.lose.new.self; changed = c.args.number } in
    c.emptied_home.ensures c.self.inside.program.value.templates.nodes
    ∙ sym (ap (λ (o : Option GoalEntry). emptied_home (option_map (goal_row c.self.inside.program.value.templates.nodes) o))
    (put_there c.args.goal c.self.inside.goals (c.get_mut.follows.lender new) (Some new) (on_some c.get_mut.result _ c.in-Some.is (c.get_mut.follows.holds new)).finds))
