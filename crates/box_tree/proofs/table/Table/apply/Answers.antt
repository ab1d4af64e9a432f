use Rattle.box_tree.proofs.Remarked.{applied}
use Rattle.box_tree.proofs.table.Table.apply.Goals as goal

pub returns-clause-applied : goal.returns-clause-applied
returns-clause-applied c = applied c.args.self.now c.make.new.self c.mark.new.self c.leave.new.self c.args.label c.args.others c.args.at c.args.names c.args.step c.args.binds.now c.in_ok-make.ensures.made c.mark.ensures.rest c.mark.ensures.marks
    c.mark.ensures.stores c.leave.ensures.rest c.leave.ensures.variables c.left_by-left.result c.left_by-left.ensures c.leave.ensures.stores
