use Rattle.std.proofs.Common.{ℕ, List, sym, subst, ◌∙◌}
use Rattle.std.proofs.lemmas.Result.{IfOk-weaker}
use Rattle.par_workers.specs.Tokens.{AreHeld}
use Rattle.par_workers.proofs.LookedAgain.{none_found}
use Rattle.par_workers.proofs.looking.find_at_hand.Goals as goal

pub returns-clause-stay : goal.returns-clause-stay
returns-clause-stay c =
    let line = c.look_through.new.line.items in
    let tokens = c.look_through.new.tokens in
    IfOk-weaker c.look_at_late.result _ _
    (λ found stay t at. stay line t (none_found c.in_ok-found.found (sym c.is_some.ensures ∙ c.if-is_some.false) t line tokens.lying tokens.held (c.in_ok-found.ensures.stay t (c.in_ok-gather.ensures.stay t at)))) c.look_at_late.ensures.stay

pub returns-clause-held : goal.returns-clause-held
returns-clause-held c = λ all. c.look_at_late.ensures.held (c.look_through.ensures.held (subst (λ (held : List ℕ). AreHeld c.args.scheduler.now.openings held) (sym c.gather.ensures.held) all))
