use Rattle.seq_engine.specs.Attending.{HasWaited}
use Rattle.seq_engine.proofs.attending.attend_next.Given as goal

abbrev pub invariant-loop : goal.invariant-loop
invariant-loop l = HasWaited l.fn.scheduler l.scheduler
