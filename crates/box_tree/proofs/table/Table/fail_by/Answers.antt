use Rattle.std.proofs.Common.{refl, sym, ap, ◌∙◌, Some}
use Rattle.std.specs.Option.{option_copied_mut}
use Rattle.box_tree.specs.declared.entries.BoxEntry.{BoxEntry}
use Rattle.box_tree.specs.Tables.{TableValue}
use Rattle.table_laws.specs.Writes.{failing_row}
use Rattle.name_map.proofs.Lent.{on_some}
use Rattle.box_tree.proofs.Written.{writes_box, writes_no_box}
use Rattle.box_tree.proofs.table.Table.fail_by.Goals as goal
use Rattle.box_tree.proofs.table.Table.fail_by.Goals.{in-Some-get_mut, in_default-get_mut}

pub returns : goal.returns
returns c =
    let t : TableValue = record { program = c.self.inside.program.value; query = c.self.inside.query.value; boxes = c.self.inside.boxes; goals = c.self.inside.goals; roots = c.self.inside.roots.items; roots_changed = c.self.inside.roots_changed; marks = c.self.inside.marks; next = c.self.inside.next.items; steps = c.self.inside.steps } in
    rw c.in-Some.is (elim c.match-get_mut.branch [
      | in-Some-get_mut w ↦
          let old : BoxEntry = w.in-Some-get_mut.entry.now in
          let is = sym c.get_mut.ensures.value ∙ ap option_copied_mut w.in-Some-get_mut.is in
          let new : BoxEntry = record { holder = old.holder; store = old.store; changed = old.changed; solved_at = old.solved_at; goals = old.goals; goals_changed = old.goals_changed; failing = Some c.args.goal; body = old.body; shown = old.shown; collected = old.collected } in
          rw w.self-inside-is (rw (sym c.self.view_is) (writes_box t c.in-Some.name (c.get_mut.follows.lender new) (failing_row c.args.goal) old new is (on_some c.get_mut.result _ w.in-Some-get_mut.is (c.get_mut.follows.holds new)).finds refl))
      | in_default-get_mut w ↦
          let none = sym c.get_mut.ensures.value ∙ ap option_copied_mut w.in_default-get_mut.is in
          rw w.self-inside-is (rw (sym c.self.view_is) (writes_no_box t c.in-Some.name c.get_mut.follows.lender-at-none (failing_row c.args.goal) none c.get_mut.follows.holds-at-none))
    ])
