use Rattle.std.proofs.Common.{ap}
use Rattle.scheduler.specs.Schedulers.{SchedulerValue}
use Rattle.par_workers.proofs.Holding.{closed_shut}
use Rattle.par_workers.proofs.looking.close.Goals as goal

pub returns-clause-shut : goal.returns-clause-shut
returns-clause-shut c = closed_shut c.args.token c.args.scheduler.now.openings c.forget.new.self.openings (ap (λ (s : SchedulerValue). s.openings) c.forget.ensures.closed) c.forget.ensures.gone
