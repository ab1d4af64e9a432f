use Rattle.scheduler.proofs.AtRest.{IsToken, depth_left}
use Rattle.scheduler.proofs.scheduler.Scheduler.at_rest_in.Given as goal

abbrev pub invariant-loop-next : goal.invariant-loop-next
invariant-loop-next l = IsToken l.self.openings l.inner

abbrev pub decreases-loop-next : goal.decreases-loop-next
decreases-loop-next l = depth_left l.self.openings l.inner
