use Rattle.std.proofs.Common.{IfSome, Option, subst}
use Rattle.box_tree.specs.Plans.{PlanValue}
use Rattle.core_tests.specs.Racing.{IsPlanBy}
use Rattle.place_steps.proofs.Plans.{may_commit_now}
use Rattle.core_tests.proofs.race.take_turn.Goals as goal

pub commit-requires : goal.commit-requires
commit-requires c =
    let it : IsPlanBy c.args.core.now c.args.turn.worker c.args.turn.room c.in-Some.plan = subst (λ (o : Option PlanValue). IfSome o (IsPlanBy c.args.core.now c.args.turn.worker c.args.turn.room)) c.in-Some.is c.in_ok-plan.ensures in
    may_commit_now c.args.core.now c.in-Some.plan it.table it.journal
