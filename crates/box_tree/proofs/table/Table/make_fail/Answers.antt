use Rattle.std.proofs.Common.{refl, sym, ap, ◌∙◌}
use Rattle.std.specs.Option.{option_copied_mut}
use Rattle.akl_terms.specs.declared.program.Code.{Code}
use Rattle.box_tree.specs.declared.entries.Held.{Held}
use Rattle.box_tree.specs.declared.entries.GoalEntry.{GoalEntry}
use Rattle.box_tree.specs.Tables.{TableValue}
use Rattle.table_laws.specs.Writes.{refuted_row}
use Rattle.name_map.proofs.Lent.{on_some}
use Rattle.box_tree.proofs.Written.{writes_goal, writes_no_goal}
use Rattle.box_tree.proofs.table.Table.make_fail.Goals as goal
use Rattle.box_tree.proofs.table.Table.make_fail.Goals.{in-Some, in_default}

pub returns : goal.returns
returns c =
    let t : TableValue = record { program = c.self.inside.program.value; query = c.self.inside.query.value; boxes = c.self.inside.boxes; goals = c.self.inside.goals; roots = c.self.inside.roots.items; roots_changed = c.self.inside.roots_changed; marks = c.self.inside.marks; next = c.self.inside.next.items; steps = c.self.inside.steps } in
    elim c.match-get_mut.branch [
      | in-Some w ↦
          let old : GoalEntry = w.in-Some.entry.now in
          let is = sym c.get_mut.ensures.value ∙ ap option_copied_mut w.in-Some.is in
          let new : GoalEntry = record { home = old.home; held = Held.Atom (record { code = Code.Fail; frame = c.args.goal }); changed = c.args.number } in
          rw w.self-inside-is (rw (sym c.self.view_is) (writes_goal t c.args.goal (c.get_mut.follows.lender new) (refuted_row c.args.number) old new is (on_some c.get_mut.result _ w.in-Some.is (c.get_mut.follows.holds new)).finds refl))
      | in_default w ↦
          let none = sym c.get_mut.ensures.value ∙ ap option_copied_mut w.in_default.is in
          rw w.self-inside-is (rw (sym c.self.view_is) (writes_no_goal t c.args.goal c.get_mut.follows.lender-at-none (refuted_row c.args.number) none c.get_mut.follows.holds-at-none))
    ]
