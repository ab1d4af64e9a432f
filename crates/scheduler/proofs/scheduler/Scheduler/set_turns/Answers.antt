use Rattle.std.proofs.Common.{◌≡◌, ◌∙◌, subst}
use Rattle.wake_lists.specs.Open.{untimed}
use Rattle.scheduler.specs.Schedulers.{SchedulerValue}
use Rattle.box_tree.specs.Tables.{TableValue}
use Rattle.opened_places.specs.Placed.{places_of}
use Rattle.scheduler.specs.Turns.{AreUrgent}
use Rattle.scheduler.proofs.Hurrying.{urgent_beside, boxes_beside}
use Rattle.scheduler.proofs.SplitsKept.{untimed_splits}
use Rattle.scheduler.proofs.Untimed.{untimed_scheduler}
use Rattle.scheduler.proofs.scheduler.Scheduler.set_turns.Goals as goal

pub invariant_of-self : goal.invariant_of-self
invariant_of-self c =
    let s : SchedulerValue = record { core = c.self.inside.core; openings = c.self.inside.open; waits = c.self.inside.waits } in
    let same : untimed c.delay_waiting.new.open_places ≡ untimed s.openings = c.delay_waiting.ensures.places ∙ c.order_all.ensures.places ∙ c.resume_bound.ensures ∙ c.resume_late.ensures in
    record {
      scheduler = untimed_scheduler s c.self.invariant.scheduler c.delay_waiting.new.open_places same;
      splits = untimed_splits s.core.table s.openings c.delay_waiting.new.open_places c.self.inside.splits same c.self.invariant.splits;
    }

pub returns-clause-urgent : goal.returns-clause-urgent
returns-clause-urgent c = subst (λ (v : TableValue). AreUrgent v c.args.hints.now.told (places_of c.args.places.now) c.delay_waiting.new.open_places) c.table.ensures.table
    (urgent_beside c.table.result.now c.args.hints.now.told (places_of c.args.places.now) c.order_all.new.open_places c.delay_waiting.new.open_places c.order_all.ensures.urgent c.delay_waiting.ensures.boxes)

pub returns-clause-unsolved : goal.returns-clause-unsolved
returns-clause-unsolved c = boxes_beside c.args.hints.now.unsolved.items c.order_all.new.open_places c.delay_waiting.new.open_places c.order_all.ensures.unsolved c.delay_waiting.ensures.boxes
