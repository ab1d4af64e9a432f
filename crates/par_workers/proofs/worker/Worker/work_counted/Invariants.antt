use Rattle.std.proofs.Common.{◌≡◌, IfSome}
use Rattle.turn_lock.specs.Passes.{view, IsPassOf}
use Rattle.par_workers.specs.Turns.{run_seen, IsFoundIn}
use Rattle.par_workers.proofs.worker.Worker.work_counted.Given as goal

abbrev pub invariant-loop : goal.invariant-loop
invariant-loop g l = IsPassOf l.lock l.self.pass × (l.self.number ≡ l.fn.self.number) × IfSome l.planned (λ p. IfSome p.next (IsFoundIn (run_seen (view l.self.pass)) l.self.number))
