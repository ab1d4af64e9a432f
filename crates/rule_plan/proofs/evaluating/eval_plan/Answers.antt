use Rattle.rule_plan.proofs.evaluating.eval_plan.Goals as goal

pub goal_plan-requires-clause-right : goal.goal_plan-requires-clause-right
goal_plan-requires-clause-right c = rw c.new-binds.ensures.items c.requires.right
