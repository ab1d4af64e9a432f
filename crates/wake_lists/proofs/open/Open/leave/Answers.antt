use Rattle.wake_lists.proofs.OpeningsKept.{left_next, left_all}
use Rattle.wake_lists.proofs.open.Open.leave.Goals as goal

pub loop-name-preserved : goal.loop-name-preserved
loop-name-preserved c = left_next c.args.boxes.now c.args.self.now c.loop-name.name-index _ c.loop-name.self c.leave_one.new.self c.loop-name-test.true c.loop-name.invariant c.leave_one.ensures

pub returns : goal.returns
returns c = left_all c.args.boxes.now c.args.self.now c.loop-name.name-index c.loop-name.self c.loop-name-test.false c.loop-name.invariant
