use Rattle.local_store.proofs.Answered.{IfOk-both}
use Rattle.guard_plan.proofs.Tested.{answered}
use Rattle.guard_plan.proofs.guards.quietness.Goals as goal

pub returns : goal.returns
returns c = IfOk-both c.quiet.result _ _ _ (λ a whole answer. answered c.args.chain.now.nodes c.args.chain.now.stores c.requires a whole answer) c.quiet.ensures.whole c.quiet.ensures.answer
