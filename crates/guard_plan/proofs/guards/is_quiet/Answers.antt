use Rattle.guard_plan.proofs.Noises.{quiet_adds, noisy_adds, clash_adds}
use Rattle.guard_plan.proofs.Tested.{says_quiet, says_other, clash_other}
use Rattle.guard_plan.proofs.guards.is_quiet.Goals as goal

pub returns-in-Quiet-clause-holds : goal.returns-in-Quiet-clause-holds
returns-in-Quiet-clause-holds c = says_quiet c.args.chain.now.nodes c.args.chain.now.stores (rw c.in-Quiet.is at c.in_ok-quietness.ensures)

pub returns-in-Quiet-clause-noise : goal.returns-in-Quiet-clause-noise
returns-in-Quiet-clause-noise c = quiet_adds c.args.chain.now.nodes c.args.chain.now.stores c.args.noise.now.items (rw c.in-Quiet.is at c.in_ok-quietness.ensures)

pub returns-in_ok-push-in-Noisy-clause-holds : goal.returns-in_ok-push-in-Noisy-clause-holds
returns-in_ok-push-in-Noisy-clause-holds c =
    let a = rw c.in-Noisy.is at c.in_ok-quietness.ensures in
    says_other c.args.chain.now.nodes c.args.chain.now.stores a.1

pub returns-in_ok-push-in-Noisy-clause-noise : goal.returns-in_ok-push-in-Noisy-clause-noise
returns-in_ok-push-in-Noisy-clause-noise c =
    let a = rw c.in-Noisy.is at c.in_ok-quietness.ensures in
    rw c.in_ok-push-in-Noisy.ensures.items (noisy_adds c.args.chain.now.nodes c.args.chain.now.stores c.args.noise.now.items (record { on = c.in-Noisy.on }) a)

pub returns-in-Inconsistent-clause-holds : goal.returns-in-Inconsistent-clause-holds
returns-in-Inconsistent-clause-holds c =
    let a = rw c.in-Inconsistent.is at c.in_ok-quietness.ensures in
    says_other c.args.chain.now.nodes c.args.chain.now.stores (clash_other c.args.chain.now.nodes c.args.chain.now.stores c.in-Inconsistent.left c.in-Inconsistent.right a)

pub returns-in-Inconsistent-clause-noise : goal.returns-in-Inconsistent-clause-noise
returns-in-Inconsistent-clause-noise c =
    let a = rw c.in-Inconsistent.is at c.in_ok-quietness.ensures in
    clash_adds c.args.chain.now.nodes c.args.chain.now.stores c.args.noise.now.items c.in-Inconsistent.left c.in-Inconsistent.right a
