use Rattle.std.proofs.Common.{sym, ap, ◌∙◌, ℕ}
use Rattle.turn_lock.specs.declared.view.View.{View}
use Rattle.base_tests.specs.declared.lock.Entry.{Entry}
use Rattle.turn_lock.proofs.Goings.{goes_on_by-push}
use Rattle.base_tests.proofs.lock.Worker.take_turn.Goals as goal

pub unlock-requires-clause-history : goal.unlock-requires-clause-history
unlock-requires-clause-history g c =
    goes_on_by-push (λ (e : Entry). e.worker) _ _ _ _ _ _ c.push.ensures.items (ap (λ (v : View ℕ Entry). v.seen) c.lock-log.ensures.seen) (sym (ap (λ (v : View ℕ Entry). v.number) c.lock-log.ensures.seen ∙ c.args.self.now.numbered.0))
