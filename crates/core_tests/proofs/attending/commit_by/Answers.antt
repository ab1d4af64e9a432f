use Rattle.std.proofs.Common.{ap}
use Rattle.scheduler.specs.Schedulers.{SchedulerValue}
use Rattle.core_tests.proofs.Concluding.{stays, whatever}
use Rattle.core_tests.proofs.attending.commit_by.Goals as goal

pub returns : goal.returns
returns g c = whatever c.push_refused.result (stays _ _ (ap (λ (s : SchedulerValue). s.core) c.in-Err.ensures.unchanged))
