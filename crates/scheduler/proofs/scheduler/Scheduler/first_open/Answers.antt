use Rattle.std.proofs.Common.{subst}
use Rattle.wake_lists.specs.Open.{IsFirst}
use Rattle.scheduler.specs.Schedulers.{SchedulerValue, IsScheduler}
use Rattle.scheduler.proofs.Starting.{quiet_first}
use Rattle.scheduler.proofs.scheduler.Scheduler.first_open.Goals as goal

pub returns-clause-quiet : goal.returns-clause-quiet
returns-clause-quiet c =
    quiet_first c.args.self.now (subst IsScheduler c.self.view_is c.self.invariant.scheduler) c.first.result (subst (λ (s : SchedulerValue). IsFirst s.openings c.first.result) c.self.view_is c.first.ensures)
