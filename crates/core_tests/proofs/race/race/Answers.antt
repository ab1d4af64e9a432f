use Rattle.std.proofs.Common.{IfSome, Option, sym, subst, ◌∙◌, arith}
use Rattle.box_tree.specs.Plans.{PlanValue}
use Rattle.core_tests.specs.Racing.{IsPlanBy}
use Rattle.place_steps.proofs.Plans.{may_commit_now}
use Rattle.core_tests.proofs.Concluding.{may_commit_second}
use Rattle.core_tests.proofs.race.race.Goals as goal

pub commit-requires : goal.commit-requires
commit-requires c =
    let one : IsPlanBy c.args.core.now c.args.first.worker 1 c.in-Some.one = subst (λ (o : Option PlanValue). IfSome o (IsPlanBy c.args.core.now c.args.first.worker 1)) c.in-Some.is c.in_ok-one.ensures in
    may_commit_now c.args.core.now c.in-Some.one one.table one.journal

pub commit-requires-in-Ok : goal.commit-requires-in-Ok
commit-requires-in-Ok c =
    let one : IsPlanBy c.args.core.now c.args.first.worker 1 c.in-Some.one = subst (λ (o : Option PlanValue). IfSome o (IsPlanBy c.args.core.now c.args.first.worker 1)) c.in-Some.is c.in_ok-one.ensures in
    let two : IsPlanBy c.args.core.now c.args.second.worker c.args.second.room c.in-Some-2.two = subst (λ (o : Option PlanValue). IfSome o (IsPlanBy c.args.core.now c.args.second.worker c.args.second.room)) c.in-Some-2.is c.in_ok-two.ensures in
    may_commit_second c.args.core.now c.commit.new.core c.in-Some.one c.in-Some-2.two c.in-Ok.field-0 c.table.ensures.core c.in-Ok.ensures.core (one.alone (omega arith)) two.table two.journal
    (λ e. c.if-first-second.false (sym one.worker ∙ sym e ∙ two.worker)) c.in-Ok.ensures.committed
