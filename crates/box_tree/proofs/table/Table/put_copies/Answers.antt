use Rattle.box_tree.proofs.Copied.{copy_ordered, copies_step, copies_only}
use Rattle.box_tree.proofs.table.Table.put_copies.Goals as goal

pub put_copy-requires : goal.put_copy-requires
put_copy-requires c = copy_ordered c.args.self.now c.loop-copy.self c.loop-copy.self c.args.holder c.args.at c.args.number c.args.copies.items c.loop-copy.left.items c.pop.new.self.items c.in-Some.copy c.loop-copy.invariant c.in-Some.ensures.items

pub loop-copy-preserved : goal.loop-copy-preserved
loop-copy-preserved c = copies_step c.args.self.now c.loop-copy.self c.put_copy.new.self c.args.holder c.args.at c.args.number c.args.copies.items c.loop-copy.left.items c.pop.new.self.items c.in-Some.copy c.loop-copy.invariant c.in-Some.ensures.items
    c.in_ok-put_copy.ensures.put c.in_ok-put_copy.ensures.only

pub returns-in_err-put_copy-clause-only : goal.returns-in_err-put_copy-clause-only
returns-in_err-put_copy-clause-only c = copies_only c.args.self.now c.loop-copy.self c.put_copy.new.self c.args.holder c.args.at c.args.number c.args.copies.items c.loop-copy.left.items c.pop.new.self.items c.in-Some.copy c.loop-copy.invariant c.in-Some.ensures.items
    c.in_err-put_copy.ensures.only
