use Rattle.std.proofs.Common.{◌≡◌}
use Rattle.scheduler.specs.Weights.{weight}
use Rattle.seq_engine.proofs.attending.next_plan.Given as goal

abbrev pub invariant-loop-found : goal.invariant-loop-found
invariant-loop-found l = l.scheduler.core ≡ l.fn.scheduler.core

abbrev pub decreases-loop-found : goal.decreases-loop-found
decreases-loop-found l = weight l.scheduler.openings
