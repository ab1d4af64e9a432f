use Rattle.std.proofs.Common.{ℕ, List, sym, subst}
use Rattle.par_workers.specs.Tokens.{AreHeld}
use Rattle.par_workers.proofs.looking.look_at_late.Goals as goal

pub returns-in-Some-2-clause-held : goal.returns-in-Some-2-clause-held
returns-in-Some-2-clause-held c = λ all. c.see_open.ensures.held (subst (λ (held : List ℕ). AreHeld c.loop.scheduler.openings held) (sym c.take_last.ensures.held) (c.loop.invariant.held all))
