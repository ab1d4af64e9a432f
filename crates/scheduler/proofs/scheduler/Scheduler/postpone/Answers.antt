use Rattle.std.proofs.Common.{◌≡◌}
use Rattle.wake_lists.specs.Open.{untimed}
use Rattle.scheduler.specs.Schedulers.{SchedulerValue}
use Rattle.scheduler.proofs.SplitsKept.{untimed_splits}
use Rattle.scheduler.proofs.Untimed.{untimed_either, untimed_scheduler}
use Rattle.scheduler.proofs.scheduler.Scheduler.postpone.Goals as goal

pub invariant_of-self : goal.invariant_of-self
invariant_of-self c =
    let s : SchedulerValue = record { core = c.self.inside.core; openings = c.self.inside.open; waits = c.self.inside.waits } in
    let same : untimed c.put_last.new.self ≡ untimed s.openings = untimed_either c.put_last.result s.openings c.put_last.new.self c.put_last.ensures.places c.put_last.ensures.unchanged in
    record {
      scheduler = untimed_scheduler s c.self.invariant.scheduler c.put_last.new.self same;
      splits = untimed_splits s.core.table s.openings c.put_last.new.self c.self.inside.splits same c.self.invariant.splits;
    }
