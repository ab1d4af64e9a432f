use Rattle.idle_plan.proofs.Steps.{none_gathered, one_gathered}
use Rattle.idle_plan.proofs.goals.members_of_all.Goals as goal

pub loop-one-init : goal.loop-one-init
loop-one-init c = rw c.new-list.ensures.items (none_gathered c.args.chain.now.nodes c.args.chain.now.stores)

pub loop-one-preserved : goal.loop-one-preserved
loop-one-preserved c =
    rw (c.in_ok-extend_from_slice.ensures.items, c.as_slice-in-loop-one.ensures.value)
    (one_gathered c.args.chain.now.nodes c.args.chain.now.stores c.args.noise.now c.loop-one.one-index c.one-item.result c.loop-one-test.true c.loop-one.list.items c.in_ok-own.own.items c.loop-one.invariant
    (rw (c.as_slice.ensures.value, c.one-item.is) at c.in_ok-own.ensures.members))
