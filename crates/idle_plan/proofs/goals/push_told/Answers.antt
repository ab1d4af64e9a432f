use Rattle.idle_plan.proofs.Steps.{quiet_added, clash_added, noisy_added}
use Rattle.idle_plan.proofs.goals.push_told.Goals as goal

pub returns-in-Quiet : goal.returns-in-Quiet
returns-in-Quiet c =
    let q = rw c.in-Quiet.is at c.in_ok-on.ensures in
    quiet_added c.args.program.now.templates.nodes c.args.view.now.stores c.args.alternative.now c.args.list.now.items c.if-not-alternative.false q

pub returns-in-Inconsistent : goal.returns-in-Inconsistent
returns-in-Inconsistent c =
    let k = rw c.in-Inconsistent.is at c.in_ok-on.ensures in
    clash_added c.args.program.now.templates.nodes c.args.view.now.stores c.args.alternative.now c.args.list.now.items c.in-Inconsistent.left c.in-Inconsistent.right k

pub returns-in_ok-extend_from_slice-in-Noisy : goal.returns-in_ok-extend_from_slice-in-Noisy
returns-in_ok-extend_from_slice-in-Noisy c =
    let a = rw c.in-Noisy.is at c.in_ok-on.ensures in
    let m = rw (c.chain.ensures.nodes, c.chain.ensures.stores, c.as_slice.ensures.value) at c.in_ok-own-in-Noisy.ensures.members in
    rw (c.in_ok-extend_from_slice-in-Noisy.ensures.items, c.as_slice-in-Noisy.ensures.value)
    (noisy_added c.args.program.now.templates.nodes c.args.view.now.stores c.args.alternative.now c.args.list.now.items c.if-not-alternative.false c.in-Noisy.on.items c.in_ok-own-in-Noisy.own.items a.0 a.2 m)
