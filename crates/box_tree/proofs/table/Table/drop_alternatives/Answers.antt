use Rattle.std.proofs.Common.{refl}
use Rattle.akl_terms.specs.declared.name.Name.{Name}
use Rattle.box_tree.proofs.Joined.{unset_all, unset_more}
use Rattle.box_tree.proofs.table.Table.drop_alternatives.Goals as goal

pub loop-name-init : goal.loop-name-init
loop-name-init c = record { rows = λ m. refl; rest = refl }

pub loop-name-preserved : goal.loop-name-preserved
loop-name-preserved c =
    let d : Name = record { worker = 0; number = 0 } in
    unset_more c.args.self.now c.loop-name.self c.drop_alternative.new.self c.args.names.now c.loop-name.name-index d c.loop-name-test.true c.loop-name.invariant c.drop_alternative.ensures

pub returns : goal.returns
returns c = unset_all c.args.self.now c.loop-name.self c.args.names.now c.loop-name.name-index c.loop-name-test.false c.loop-name.invariant
