use Rattle.std.proofs.Common.{arith, ◌+◌, take, ◌≡◌}
use Rattle.rational_unify.specs.Followed.{unchanged, rebound}
use Rattle.rational_unify.proofs.Taking.{take-next, take-all, past}
use Rattle.rational_unify.proofs.chain.rebind_all.Goals as goal

pub loop-variable-init : goal.loop-variable-init
loop-variable-init c = unchanged

pub loop-variable-preserved : goal.loop-variable-preserved
loop-variable-preserved c = rw (take-next c.args.variables.now c.loop-variable.variable-index (c.loop-variable.variable-index + 1) past.0 c.loop-variable-test.true (omega arith))
    (rebound c.loop-variable.invariant c.rebind.ensures)

pub returns : goal.returns
returns c =
    let all : take c.loop-variable.variable-index c.args.variables.now ≡ c.args.variables.now = take-all c.args.variables.now c.loop-variable.variable-index
    (let a = c.loop-variable.auto.variable-index-end in let b = c.loop-variable-test.false in omega arith) in
    rw all at c.loop-variable.invariant
