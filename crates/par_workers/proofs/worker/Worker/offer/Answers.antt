use Rattle.std.proofs.Common.{◌≡◌, ℕ, ◌<◌, ◌++◌, ◌∷◌, [], Option, Some, sym, ap, ◌∙◌, arith}
use Rattle.std.specs.Prelude.{option_to_list}
use Rattle.task_pool.specs.Places.{Standing}
use Rattle.par_workers.proofs.AtHand.{last_moved, where_ok}
use Rattle.par_workers.proofs.worker.Worker.offer.Goals as goal

pub returns-then-is_ok-clause-stay : goal.returns-then-is_ok-clause-stay
returns-then-is_ok-clause-stay c =
    let line = c.args.self.now.tokens in
    let last = c.in-Some.token.now in
    let now = c.pop_back.new.self.items in
    let many = c.if-len-lt-ENOUGH.false in
    let some : 0 < c.len.result = omega (arith, many) in
    let popped : c.pop_back.result ≡ Some last = c.pop_back.ensures.value last (rw (sym c.len.ensures) some) ∙ ap Some (sym c.in-Some.ensures.lookup) in
    last_moved line.items c.args.self.now.hand.pushed now c.push.new.hand.pushed last (c.pop_back.ensures.items ∙ ap (λ (o : Option ℕ). now ++ option_to_list o) popped)
    (ap (λ (h : Standing). h.pushed) (where_ok c.push.result (sym c.is_ok.ensures.value ∙ c.if-is_ok.true) c.push.ensures.ok) ∙ ap (λ (h : Standing). h.pushed ++ last ∷ []) c.is_bare.ensures.same)
