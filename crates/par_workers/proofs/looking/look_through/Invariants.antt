use Rattle.std.proofs.Common.{◌≡◌, ℕ}
use Rattle.par_workers.specs.Tokens.{AreHeld, IsAtHand}
use Rattle.par_workers.specs.Looks.{IsAtHandOrGone}
use Rattle.par_workers.proofs.looking.look_through.Given as goal

abbrev pub invariant-loop : goal.invariant-loop
invariant-loop l = record {
  core : l.scheduler.core ≡ l.fn.scheduler.core;
  held : AreHeld l.fn.scheduler.openings l.fn.tokens.held → AreHeld l.scheduler.openings l.tokens.held;
  stay : (t : ℕ) → IsAtHand t l.fn.line.items l.fn.tokens.lying → IsAtHandOrGone t l.line.items l.tokens.lying l.tokens.held;
}
