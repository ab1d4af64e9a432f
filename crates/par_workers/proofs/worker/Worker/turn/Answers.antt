use Rattle.std.proofs.Common.{sym, subst, ap, ◌∙◌, List}
use Rattle.turn_lock.specs.Passes.{view}
use Rattle.par_workers.specs.declared.made.Made.{Made}
use Rattle.par_workers.specs.Shared.{SharedValue, AreReceiptsOf}
use Rattle.par_workers.proofs.Turns.{number-turn, exact-turn, some_found_before}
use Rattle.par_workers.proofs.worker.Worker.turn.Goals as goal

pub conclude-refused-requires-clause-planned : goal.conclude-refused-requires-clause-planned
conclude-refused-requires-clause-planned g c =
    let w = c.args.self.now in
    some_found_before w.number (view w.pass) c.lock-run.result.1 c.args.planned (c.lock-run.ensures.fixed ∙ sym c.requires.lock.1) w.numbered.0 c.lock-run.ensures.history c.requires.planned

pub invariant_of-self-2 : goal.invariant_of-self-2
invariant_of-self-2 g c =
    let w = c.args.self.now in
    let v = view w.pass in
    let u = view c.lock-run.new.pass in
    let x = view c.unlock.new.pass in
    let rs = c.conclude-refused.new.receipts.items in
    record {
      numbered = number-turn w.number v u x _ _ c.lock-run.ensures.seen c.unlock.ensures.seen w.numbered;
      idle = c.unlock.ensures.turn;
      exact = exact-turn w.number v u x _ _ c.lock-run.ensures.seen c.unlock.ensures.seen w.numbered c.reserve.new.self.items rs c.lock-run.ensures.history
          (λ are. subst (λ (ms : List Made). AreReceiptsOf w.number ms rs) (sym (ap (λ (s : SharedValue). s.past) c.choose-chosen.ensures.same)) (c.conclude-refused.ensures.receipts are)) (rw c.reserve.ensures.items w.exact);
    }
