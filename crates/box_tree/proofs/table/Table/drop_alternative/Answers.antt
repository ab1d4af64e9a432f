use Rattle.std.proofs.Common.{None, subst}
use Rattle.table_laws.specs.Writes.{set}
use Rattle.box_tree.specs.Tables.{TableValue, table_of}
use Rattle.box_tree.specs.Edits.{SetsBoxes}
use Rattle.box_tree.proofs.Written.{sets_box}
use Rattle.box_tree.proofs.table.Table.drop_alternative.Goals as goal

pub returns : goal.returns
returns c =
    let t : TableValue = record { program = c.self.inside.program.value; query = c.self.inside.query.value; boxes = c.self.inside.boxes; goals = c.self.inside.goals; roots = c.self.inside.roots.items; roots_changed = c.self.inside.roots_changed; marks = c.self.inside.marks; next = c.self.inside.next.items; steps = c.self.inside.steps } in
    subst (λ (v : TableValue). SetsBoxes v (record t { boxes = c.remove.new.self }) (set c.args.name None (table_of v).box_of)) c.self.view_is (sets_box t c.args.name c.remove.new.self None c.remove.ensures.gone.finds)
