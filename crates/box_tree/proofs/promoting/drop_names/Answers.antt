use Rattle.akl_terms.specs.declared.name.Name.{Name}
use Rattle.box_tree.proofs.Naming.{name_goes}
use Rattle.box_tree.proofs.promoting.drop_names.Goals as goal

pub loop-name-preserved : goal.loop-name-preserved
loop-name-preserved c =
    let d : Name = record { worker = 0; number = 0 } in
    name_goes c.args.names.now c.args.set.now.keys c.loop-name.set.keys c.remove.new.self.keys c.loop-name.name-index d c.loop-name-test.true c.loop-name.invariant c.remove.ensures.keys
