use Rattle.std.proofs.Common.{◌≡◌, [], ◌∷◌, Some, None, sym, ◌∙◌, ap, subst}
use Rattle.std.specs.Prelude.{option_map}
use Rattle.box_tree.specs.Tables.{TableValue, table_of, box_row}
use Rattle.box_tree.specs.Drops.{DropsBoxes}
use Rattle.box_tree.proofs.Written.{sets_box}
use Rattle.box_tree.proofs.Dropped.{box_gone}
use Rattle.box_tree.proofs.table.Table.drop_box.Goals as goal

pub returns-in-Some : goal.returns-in-Some
returns-in-Some c =
    let t : TableValue = record { program = c.self.inside.program.value; query = c.self.inside.query.value; boxes = c.self.inside.boxes; goals = c.self.inside.goals; roots = c.self.inside.roots.items; roots_changed = c.self.inside.roots_changed; marks = c.self.inside.marks; next = c.self.inside.next.items; steps = c.self.inside.steps } in
    let there : (table_of t).box_of c.args.name ≡ Some (box_row t.program.templates.nodes c.in-Some.entry) =
    ap (option_map (box_row t.program.templates.nodes)) (sym c.remove.ensures.was ∙ c.in-Some.is) in
    subst (λ (v : TableValue). DropsBoxes v c.drop_goals.new.self (c.args.name ∷ [])) c.self.view_is
    (box_gone t (record t { boxes = c.remove.new.self }) c.drop_goals.new.self c.args.name (box_row t.program.templates.nodes c.in-Some.entry) there
    (sets_box t c.args.name c.remove.new.self None c.remove.ensures.gone.finds) c.drop_goals.ensures)
