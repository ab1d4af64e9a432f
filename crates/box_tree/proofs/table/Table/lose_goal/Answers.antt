use Rattle.std.proofs.Common.{sym, ap, ◌∙◌, List}
use Rattle.std.specs.Option.{option_copied_mut}
use Rattle.akl_terms.specs.declared.name.Name.{Name}
use Rattle.table_laws.specs.Writes.{confirmed_row}
use Rattle.box_tree.specs.declared.entries.BoxEntry.{BoxEntry}
use Rattle.box_tree.specs.Tables.{TableValue, box_row}
use Rattle.name_map.proofs.Lent.{on_some}
use Rattle.box_tree.proofs.Maps.{removed_is}
use Rattle.box_tree.proofs.Written.{writes_box, writes_no_box}
use Rattle.box_tree.proofs.table.Table.lose_goal.Goals as goal
use Rattle.box_tree.proofs.table.Table.lose_goal.Goals.{in-Some-get_mut, in_default-get_mut}

pub returns : goal.returns
returns c =
    let t : TableValue = record { program = c.self.inside.program.value; query = c.self.inside.query.value; boxes = c.self.inside.boxes; goals = c.self.inside.goals; roots = c.self.inside.roots.items; roots_changed = c.self.inside.roots_changed; marks = c.self.inside.marks; next = c.self.inside.next.items; steps = c.self.inside.steps } in
    rw c.in-Some.is (elim c.match-get_mut.branch [
      | in-Some-get_mut w ↦
          let old : BoxEntry = w.in-Some-get_mut.entry.now in
          let is = sym c.get_mut.ensures.value ∙ ap option_copied_mut w.in-Some-get_mut.is in
          let new : BoxEntry = record { holder = old.holder; store = old.store; changed = old.changed; solved_at = old.solved_at; goals = w.remove.new.self; goals_changed = c.args.number; failing = old.failing; body = old.body; shown = old.shown; collected = old.collected } in
          rw w.self-inside-is (rw (sym c.self.view_is) (writes_box t c.in-Some.name (c.get_mut.follows.lender new) (confirmed_row c.args.goal c.args.number) old new is
          (on_some c.get_mut.result _ w.in-Some-get_mut.is (c.get_mut.follows.holds new)).finds
          (ap (λ (ks : List Name). record (box_row t.program.templates.nodes new) { goals = ks }) (w.remove.ensures.keys ∙ removed_is c.args.goal old.goals.keys))))
      | in_default-get_mut w ↦
          let none = sym c.get_mut.ensures.value ∙ ap option_copied_mut w.in_default-get_mut.is in
          rw w.self-inside-is (rw (sym c.self.view_is) (writes_no_box t c.in-Some.name c.get_mut.follows.lender-at-none (confirmed_row c.args.goal c.args.number) none c.get_mut.follows.holds-at-none))
    ])
