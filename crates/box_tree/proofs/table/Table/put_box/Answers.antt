use Rattle.std.proofs.Common.{Some, subst, [], ◌∷◌}
use Rattle.table_laws.specs.Writes.{set}
use Rattle.box_tree.specs.Tables.{TableValue, table_of, box_row}
use Rattle.box_tree.specs.Edits.{SetsBoxes, AddsOnly}
use Rattle.box_tree.proofs.Written.{sets_box}
use Rattle.box_tree.proofs.Adding.{adds_box}
use Rattle.box_tree.proofs.table.Table.put_box.Goals as goal

pub returns-clause-put : goal.returns-clause-put
returns-clause-put c =
    let t : TableValue = record { program = c.self.inside.program.value; query = c.self.inside.query.value; boxes = c.self.inside.boxes; goals = c.self.inside.goals; roots = c.self.inside.roots.items; roots_changed = c.self.inside.roots_changed; marks = c.self.inside.marks; next = c.self.inside.next.items; steps = c.self.inside.steps } in
    subst (λ (v : TableValue). SetsBoxes v (record t { boxes = c.insert.new.self }) (set c.args.name (Some (box_row v.program.templates.nodes c.args.entry)) (table_of v).box_of)) c.self.view_is
    (sets_box t c.args.name c.insert.new.self (Some c.args.entry) c.in_ok-insert.ensures.put.finds)

pub returns-clause-only : goal.returns-clause-only
returns-clause-only c =
    let t : TableValue = record { program = c.self.inside.program.value; query = c.self.inside.query.value; boxes = c.self.inside.boxes; goals = c.self.inside.goals; roots = c.self.inside.roots.items; roots_changed = c.self.inside.roots_changed; marks = c.self.inside.marks; next = c.self.inside.next.items; steps = c.self.inside.steps } in
    subst (λ (v : TableValue). AddsOnly v (record t { boxes = c.insert.new.self }) (c.args.name ∷ [])) c.self.view_is (adds_box t c.args.name c.insert.new.self c.args.entry c.in_ok-insert.ensures.put)
