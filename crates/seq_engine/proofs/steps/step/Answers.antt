use Rattle.std.proofs.Common.{IfOk, None, Some, refl, subst}
use Rattle.step_commit.specs.Cores.{CoreValue}
use Rattle.seq_engine.specs.Runs.{IsQuiet, HasStepped}
use Rattle.seq_engine.specs.Attending.{HasPlan}
use Rattle.seq_engine.proofs.steps.step.Goals as goal

pub returns-in-Some : goal.returns-in-Some
returns-in-Some g c =
    let p : HasPlan c.args.scheduler.now c.next_plan.new.scheduler (Some c.in-Some.plan) = subst (HasPlan c.args.scheduler.now c.next_plan.new.scheduler) c.in-Some.is c.in_ok-plan.ensures in
    subst (λ (k : CoreValue). IfOk c.commit.result (HasStepped k c.args.receipts.now.items c.commit.new.scheduler.core c.commit.new.receipts.items)) p.0 c.commit.ensures

pub returns-in-None : goal.returns-in-None
returns-in-None g c =
    let p : HasPlan c.args.scheduler.now c.next_plan.new.scheduler None = subst (HasPlan c.args.scheduler.now c.next_plan.new.scheduler) c.in-None.is c.in_ok-plan.ensures in
    (p.0, refl, subst IsQuiet p.0 p.1)
