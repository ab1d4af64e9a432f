use Rattle.std.proofs.Common.{◌≡◌}
use Rattle.par_workers.specs.Tokens.{StayAtHand}
use Rattle.par_workers.proofs.worker.Worker.lay_down.Given as goal

abbrev pub invariant-loop : goal.invariant-loop
invariant-loop l = record {
  pass : l.self.pass ≡ l.fn.self.pass;
  number : l.self.number ≡ l.fn.self.number;
  stay : StayAtHand l.fn.self.tokens.items l.fn.self.hand.pushed l.self.tokens.items l.self.hand.pushed;
}
