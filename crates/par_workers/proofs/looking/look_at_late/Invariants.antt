use Rattle.std.proofs.Common.{◌≡◌, ℕ, List}
use Rattle.par_workers.specs.Tokens.{AreHeld}
use Rattle.par_workers.specs.Looks.{IsAtHandOrGone}
use Rattle.par_workers.proofs.looking.look_at_late.Given as goal

abbrev pub invariant-loop : goal.invariant-loop
invariant-loop l = record {
  core : l.scheduler.core ≡ l.fn.scheduler.core;
  held : AreHeld l.fn.scheduler.openings l.fn.tokens.held → AreHeld l.scheduler.openings l.tokens.held;
  stay : (line : List ℕ) (t : ℕ) → IsAtHandOrGone t line l.fn.tokens.lying l.fn.tokens.held → IsAtHandOrGone t line l.tokens.lying l.tokens.held;
}
