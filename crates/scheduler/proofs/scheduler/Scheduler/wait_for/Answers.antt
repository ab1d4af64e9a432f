use Rattle.std.proofs.Common.{sym, subst}
use Rattle.wake_lists.specs.declared.turn.Urgency.{Urgency}
use Rattle.wake_lists.specs.Open.{IsPutLast}
use Rattle.scheduler.specs.Schedulers.{SchedulerValue}
use Rattle.scheduler.proofs.scheduler.Scheduler.wait_for.Goals as goal

pub returns-clause-put : goal.returns-clause-put
returns-clause-put c = subst (λ (s : SchedulerValue). IsPutLast c.args.self.now.openings s.openings Urgency.Late c.args.token) (sym c.hint.ensures) c.in_ok-postpone.ensures.put
