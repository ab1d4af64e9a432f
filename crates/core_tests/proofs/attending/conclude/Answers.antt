use Rattle.std.proofs.Common.{subst}
use Rattle.place_steps.specs.declared.next.Next.{Next}
use Rattle.core_tests.specs.Waking.{IsFoundNow}
use Rattle.core_tests.proofs.Concluding.{may_commit, may_settle}
use Rattle.core_tests.proofs.attending.conclude.Goals as goal

pub commit-requires : goal.commit-requires
commit-requires c = may_commit c.args.scheduler.now.core c.in-Plan.plan (subst (λ (n : Next). IsFoundNow c.args.scheduler.now.core n) c.in-Plan.is c.requires)

pub settle-requires : goal.settle-requires
settle-requires c = may_settle c.args.scheduler.now.core c.in-Idle.idle (subst (λ (n : Next). IsFoundNow c.args.scheduler.now.core n) c.in-Idle.is c.requires)
