use Rattle.std.proofs.Common.{◌≡◌, length, subst, sym, ap, ◌∙◌, arith}
use Rattle.std.proofs.lemmas.Bool.Decides.{nat_tests}
use Rattle.scheduler.specs.Schedulers.{SchedulerValue, IsScheduler}
use Rattle.scheduler.proofs.Starting.{quiet_so, no_length}
use Rattle.scheduler.proofs.scheduler.Scheduler.is_quiet.Goals as goal

pub returns-clause-quiet : goal.returns-clause-quiet
returns-clause-quiet c = λ e.
    let zero : c.count.result ≡ 0 = grind (arith, nat_tests) in
    quiet_so c.args.self.now (subst IsScheduler c.self.view_is c.self.invariant.scheduler) (no_length c.args.self.now.openings (ap (λ (s : SchedulerValue). length s.openings) (sym c.self.view_is) ∙ sym c.count.ensures ∙ zero))
