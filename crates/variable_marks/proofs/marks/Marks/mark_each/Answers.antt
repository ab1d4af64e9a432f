use Rattle.variable_marks.proofs.InFrames.{none_marked, one_more, all_marked}
use Rattle.variable_marks.proofs.marks.Marks.mark_each.Goals as goal

pub loop-variable-init : goal.loop-variable-init
loop-variable-init c = none_marked c.args.variables.now c.args.number c.args.self.now

pub loop-variable-preserved : goal.loop-variable-preserved
loop-variable-preserved c =
    one_more c.args.variables.now c.args.number c.args.self.now c.loop-variable.self c.mark_one.new.self c.loop-variable.variable-index _ c.loop-variable-test.true c.loop-variable.invariant c.in_ok-mark_one.ensures

pub returns : goal.returns
returns c = all_marked c.args.variables.now c.args.number c.args.self.now c.loop-variable.self c.loop-variable.variable-index c.loop-variable-test.false c.loop-variable.invariant
