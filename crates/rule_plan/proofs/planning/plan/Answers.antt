use Rattle.std.proofs.lemmas.Result.{IfOk-weaker}
use Rattle.rule_plan.proofs.Silent.{planned}
use Rattle.rule_plan.proofs.planning.plan.Goals as goal

pub returns : goal.returns
returns c = IfOk-weaker c.plan_with_noise.result _ _ (planned c.args.view.now c.plan_with_noise.new.noise.items) c.plan_with_noise.ensures
