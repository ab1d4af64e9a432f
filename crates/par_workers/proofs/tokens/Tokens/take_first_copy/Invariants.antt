use Rattle.std.proofs.Common.{◌≡◌}
use Rattle.par_workers.specs.Tokens.{StayAtHand}
use Rattle.par_workers.proofs.tokens.Tokens.take_first_copy.Given as goal

abbrev pub invariant-loop : goal.invariant-loop
invariant-loop l = record {
  held : l.self.held ≡ l.fn.self.held;
  stay : StayAtHand l.fn.own.items l.fn.self.lying l.own.items l.self.lying;
}
