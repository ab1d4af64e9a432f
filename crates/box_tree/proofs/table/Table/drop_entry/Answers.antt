use Rattle.std.proofs.Common.{subst, [], ◌∷◌}
use Rattle.box_tree.specs.Tables.{TableValue}
use Rattle.box_tree.specs.Edits.{Clears}
use Rattle.box_tree.proofs.Adding.{clears_one}
use Rattle.box_tree.proofs.table.Table.drop_entry.Goals as goal

pub returns : goal.returns
returns c =
    let t : TableValue = record { program = c.self.inside.program.value; query = c.self.inside.query.value; boxes = c.self.inside.boxes; goals = c.self.inside.goals; roots = c.self.inside.roots.items; roots_changed = c.self.inside.roots_changed; marks = c.self.inside.marks; next = c.self.inside.next.items; steps = c.self.inside.steps } in
    subst (λ (v : TableValue). Clears v (record t { boxes = c.remove.new.self; goals = c.remove-2.new.self }) (c.args.name ∷ [])) c.self.view_is
    (clears_one t c.args.name c.remove.new.self c.remove-2.new.self c.remove.ensures.gone c.remove-2.ensures.gone)
