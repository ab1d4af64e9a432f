use Rattle.rule_plan.proofs.at_goals.told_plan.Goals as goal

pub goal_plan-requires-clause-right : goal.goal_plan-requires-clause-right
goal_plan-requires-clause-right c =
    let m = rw (c.chain-chain.ensures.nodes, c.chain-chain.ensures.stores, c.as_slice.ensures, c.requires.program) at c.in_ok-binds.ensures.members in
    c.requires.right c.in_ok-binds.binds.items m

pub goal_plan-requires-clause-solved : goal.goal_plan-requires-clause-solved
goal_plan-requires-clause-solved c = c.requires.solved
