use Rattle.turn_lock.specs.Passes.{IsPassOf}
use Rattle.base_tests.proofs.lock.Worker.take_turns.Given as goal

abbrev pub invariant-loop : goal.invariant-loop
invariant-loop g l = IsPassOf l.lock l.self.pass
