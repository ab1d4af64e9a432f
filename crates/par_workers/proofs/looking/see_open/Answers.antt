use Rattle.std.proofs.Common.{sym, subst}
use Rattle.scheduler.specs.Schedulers.{SchedulerValue}
use Rattle.par_workers.specs.Tokens.{TokensValue, AreHeld}
use Rattle.par_workers.proofs.Holding.{shut_held}
use Rattle.par_workers.proofs.looking.see_open.Goals.{then-is_none, else-is_none}
use Rattle.par_workers.proofs.looking.see_open.Goals as goal

pub returns-clause-held : goal.returns-clause-held
returns-clause-held c = λ all.
    let before = c.args.scheduler.now in
    let held = c.args.tokens.now.held in
    elim c.if-is_none.branch [
      | then-is_none w ↦ subst (λ (s : SchedulerValue). AreHeld s.openings c.if-is_none.tokens.held) (sym w.scheduler-is)
          (subst (λ (t : TokensValue). AreHeld w.close.new.scheduler.openings t.held) (sym w.tokens-is)
          (shut_held before.openings w.close.new.scheduler.openings held w.let_go-then-is_none.new.self.held c.args.token w.close.ensures.shut w.let_go-then-is_none.ensures.held all))
      | else-is_none w ↦ subst (λ (s : SchedulerValue). AreHeld s.openings c.if-is_none.tokens.held) (sym w.scheduler-is) (subst (λ (t : TokensValue). AreHeld before.openings t.held) (sym w.tokens-is) all)
    ]
