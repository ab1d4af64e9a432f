use Rattle.std.proofs.Common.{◌≡◌, true, sym, ◌∙◌}
use Rattle.std.proofs.lemmas.Result.{IfOk-weaker}
use Rattle.wake_lists.specs.Queue.{is_sooner}
use Rattle.wake_lists.specs.Open.{IsHurried, IsPutLast}
use Rattle.wake_lists.proofs.Keys.{sooner_is}
use Rattle.wake_lists.proofs.OpenKept.{hurried}
use Rattle.wake_lists.proofs.open.Open.hurry.Goals as goal

pub returns-then-lt-clause-hurried : goal.returns-then-lt-clause-hurried
returns-then-lt-clause-hurried c =
    let sooner : is_sooner c.args.urgency c.in-Some.now ≡ true = sym (sooner_is c.args.urgency c.in-Some.now) ∙ sym c.lt.ensures ∙ c.if-lt.true in
    IfOk-weaker c.put_last.result (λ x. IsPutLast c.args.self.now c.put_last.new.self c.args.urgency c.args.token) (λ x. IsHurried c.args.self.now c.put_last.new.self c.args.urgency c.args.token)
    (λ x. hurried c.args.self.now c.args.token c.args.urgency c.in-Some.now (sym c.urgency_of.ensures ∙ c.in-Some.is) sooner c.put_last.new.self) c.put_last.ensures.put
