use Rattle.std.proofs.Common.{take, get_or, sym, subst}
use Rattle.std.proofs.lemmas.List.{take_more}
use Rattle.akl_terms.specs.declared.name.Name.{Name}
use Rattle.box_tree.specs.Drops.{DropsBoxes}
use Rattle.box_tree.proofs.Dropped.{boxes_gone}
use Rattle.box_tree.proofs.table.Table.drop_boxes.Goals as goal

pub loop-name-preserved : goal.loop-name-preserved
loop-name-preserved c =
    let items = c.args.names.now in
    let i = c.loop-name.name-index in
    let next : Name = get_or items i (record { worker = 0; number = 0 }) in
    subst (DropsBoxes c.args.self.now c.drop_box.new.self) (sym (take_more items i (record { worker = 0; number = 0 }) c.loop-name-test.true))
    (boxes_gone c.args.self.now c.loop-name.self c.drop_box.new.self (take i items) next c.loop-name.invariant c.drop_box.ensures)
