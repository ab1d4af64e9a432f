use Rattle.std.proofs.Common.{◌≡◌, [], ◌∷◌, ◌++◌, None, sym, ap, subst, ◌∙◌}
use Rattle.wake_lists.specs.Open.{IsOpen}
use Rattle.wake_lists.proofs.LinesKept.{on_err_so}
use Rattle.wake_lists.proofs.WaitsKept.{on_not_err}
use Rattle.scheduler.proofs.OpenedMore.{none_of, one_back, one_more}
use Rattle.scheduler.proofs.opening.open_one.Goals as goal

pub open_new-requires : goal.open_new-requires
open_new-requires g c = subst (IsOpen c.args.open_places.now c.place-place.result) (none_of c.token_of.result (sym c.is_some.ensures ∙ c.if-is_some.false)) c.token_of.ensures

pub returns-then-is_err-clause-unchanged : goal.returns-then-is_err-clause-unchanged
returns-then-is_err-clause-unchanged g c =
    let none : c.token_of.result ≡ None = none_of c.token_of.result (sym c.is_some.ensures ∙ c.if-is_some.false) in
    let closed : IsOpen c.args.open_places.now c.place-place.result None = subst (IsOpen c.args.open_places.now c.place-place.result) none c.token_of.ensures in
    c.close.ensures ∙ one_back c.args.open_places.now c.open_new.new.self c.place-place.result c.around-2.result.now c.in_ok-token.token closed c.urgency_at_first.result c.in_ok-token.ensures.opened

pub returns-then-is_err-clause-tokens : goal.returns-then-is_err-clause-tokens
returns-then-is_err-clause-tokens g c = ap (λ v. v.items) (on_err_so c.push.result c.push.ensures.err (sym c.is_err.ensures.value ∙ c.if-is_err.true))

pub returns-clause-opened : goal.returns-clause-opened
returns-clause-opened g c =
    let none : c.token_of.result ≡ None = none_of c.token_of.result (sym c.is_some.ensures ∙ c.if-is_some.false) in
    let closed : IsOpen c.args.open_places.now c.place-place.result None = subst (IsOpen c.args.open_places.now c.place-place.result) none c.token_of.ensures in
    let pushed : c.push.new.self.items ≡ c.args.tokens.now.items ++ c.in_ok-token.token ∷ [] = on_not_err c.push.result c.push.ensures.ok (sym c.is_err.ensures.value ∙ c.if-is_err.false) in
    one_more c.args.open_places.now c.open_new.new.self c.place-place.result c.around-2.result.now c.in_ok-token.token closed c.urgency_at_first.result c.args.placed.now c.args.tokens.now.items c.push.new.self.items c.place-place.ensures
    c.around-2.ensures pushed c.in_ok-token.ensures.opened
