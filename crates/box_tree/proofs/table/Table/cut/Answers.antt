use Rattle.std.proofs.Common.{refl, sym, subst}
use Rattle.table_laws.specs.Walks.{alternatives_of}
use Rattle.table_laws.specs.Writes.{names_cut, Cuts}
use Rattle.box_tree.specs.Tables.{TableValue, table_of, op_held}
use Rattle.box_tree.specs.Drops.{DropsBoxes}
use Rattle.box_tree.proofs.CutOff.{cut_made}
use Rattle.box_tree.proofs.table.Table.cut.Goals as goal

pub returns-clause-cuts : goal.returns-clause-cuts
returns-clause-cuts c =
    let t : TableValue = c.args.self.now in
    subst (λ (v : TableValue). Cuts (table_of t) (table_of (record v { steps = c.args.number })) c.args.goal c.args.name) (sym c.self.view_is)
    (cut_made t c.args.goal c.args.name c.in_ok-op.ensures.0 c.in_ok-op.op c.args.number c.in_ok-kept.kept.items c.make_choice.new.self c.drop_boxes.new.self
    (names_cut (op_held t.program.templates.nodes c.in_ok-op.op) c.args.name (alternatives_of ((table_of t).goal_of c.args.goal))) c.in_ok-kept.gone.items c.requires.number c.in_ok-op.ensures.1 c.in_ok-kept.ensures.kept refl c.in_ok-kept.ensures.gone c.make_choice.ensures
    (subst (DropsBoxes c.make_choice.new.self c.drop_boxes.new.self) c.as_slice.ensures.value c.drop_boxes.ensures))
