use Rattle.std.proofs.Common.{◌-◌, length}
use Rattle.seq_engine.specs.Runs.{GoesOn}
use Rattle.seq_engine.proofs.run.run_counted.Given as goal

abbrev pub invariant-loop-steps : goal.invariant-loop-steps
invariant-loop-steps g l = GoesOn l.fn.scheduler.core l.fn.receipts.items l.scheduler.core l.receipts.items

abbrev pub decreases-loop-steps : goal.decreases-loop-steps
decreases-loop-steps g l = l.scheduler.core.budget - length l.scheduler.core.journal
