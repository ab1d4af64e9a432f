use Rattle.std.proofs.Common.{arith}
use Rattle.local_store.proofs.Increasing.{increase-first, increase-next, increase-all}
use Rattle.local_store.proofs.frame_bindings.increase.Goals as goal

pub loop-at-init : goal.loop-at-init
loop-at-init c = (omega arith, increase-first c.args.bindings.now)

pub loop-at-preserved : goal.loop-at-preserved
loop-at-preserved c = (omega arith, increase-next c.args.bindings.now c.loop-at.at _ _ c.loop-at.invariant.0 c.loop-at-test.true c.if-bindings-at.false c.loop-at.invariant.1)

pub returns : goal.returns
returns c = λ q. increase-all c.args.bindings.now c.loop-at.at c.loop-at-test.false c.loop-at.invariant.1
