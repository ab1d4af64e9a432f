use Rattle.std.proofs.Common.{take, get_or, sym, subst}
use Rattle.std.proofs.lemmas.List.{take_more}
use Rattle.akl_terms.specs.declared.name.Name.{Name}
use Rattle.box_tree.specs.Edits.{Clears}
use Rattle.box_tree.proofs.Adding.{clears_nothing, clears_then}
use Rattle.box_tree.proofs.table.Table.drop_entries.Goals as goal

pub loop-name-init : goal.loop-name-init
loop-name-init c = clears_nothing c.args.self.now

pub loop-name-preserved : goal.loop-name-preserved
loop-name-preserved c =
    let d : Name = record { worker = 0; number = 0 } in
    subst (Clears c.args.self.now c.drop_entry.new.self) (sym (take_more c.args.names.now c.loop-name.name-index d c.loop-name-test.true))
    (clears_then c.args.self.now c.loop-name.self c.drop_entry.new.self (take c.loop-name.name-index c.args.names.now) (get_or c.args.names.now c.loop-name.name-index d) c.loop-name.invariant c.drop_entry.ensures)
