use Rattle.std.proofs.lemmas.Result.{IfOk-weaker}
use Rattle.idle_plan.proofs.Awaiting.{members_awaited}
use Rattle.idle_plan.proofs.goals.waits_of_other.Goals as goal

pub returns-in-Some : goal.returns-in-Some
returns-in-Some c =
    let w = rw c.in-Some.is at c.in_ok-awaited-in-Consistent.ensures in
    let m = rw (c.chain-chain.ensures.nodes, c.chain-chain.ensures.stores) at c.members.ensures.members in
    IfOk-weaker c.members.result _ _ (λ list h. members_awaited c.args.program.now c.args.view.now.stores c.args.atom c.in-Some.on list.items w h) m
