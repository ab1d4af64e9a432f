use Rattle.rule_plan.proofs.TellRight.{tell_right}
use Rattle.rule_plan.proofs.telling.tell.Goals as goal

pub telling_plan-requires-clause-right : goal.telling_plan-requires-clause-right
telling_plan-requires-clause-right c = tell_right c.args.view.now c.requires.seen c.args.goal c.args.frame c.args.left c.args.right c.requires.place c.requires.sight
