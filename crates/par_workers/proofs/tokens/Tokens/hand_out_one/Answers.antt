use Rattle.std.proofs.Common.{ℕ, List, sym, ap, subst, ◌∙◌}
use Rattle.wake_lists.specs.TokenSets.{is_token_in}
use Rattle.wake_lists.proofs.TokensIn.{set_added}
use Rattle.par_workers.specs.Tokens.{TokensValue, NewAtHand}
use Rattle.par_workers.proofs.AtHand.{one_new}
use Rattle.par_workers.proofs.Held.{keeps_added}
use Rattle.par_workers.proofs.tokens.Tokens.hand_out_one.Goals as goal

pub returns-in_err-place-clause-keeps : goal.returns-in_err-place-clause-keeps
returns-in_err-place-clause-keeps c = λ t e.
    ap (is_token_in t) c.place.ensures.held
    ∙ keeps_added c.self.inside.held.keys c.insert.new.self.keys c.args.token (set_added c.self.inside.held c.insert.new.self c.args.token c.in_ok-insert.ensures.updates.0) t (ap (λ (v : TokensValue). is_token_in t v.held) c.self.view_is ∙ e)

pub returns-in_ok-place-clause-keeps : goal.returns-in_ok-place-clause-keeps
returns-in_ok-place-clause-keeps c = λ t e.
    ap (is_token_in t) c.place.ensures.held
    ∙ keeps_added c.self.inside.held.keys c.insert.new.self.keys c.args.token (set_added c.self.inside.held c.insert.new.self c.args.token c.in_ok-insert.ensures.updates.0) t (ap (λ (v : TokensValue). is_token_in t v.held) c.self.view_is ∙ e)

pub returns-in_ok-place-clause-comes : goal.returns-in_ok-place-clause-comes
returns-in_ok-place-clause-comes c =
    let own = c.place.new.own.items in
    let kept = c.place.new.self in
    let adds = set_added c.self.inside.held c.insert.new.self c.args.token c.in_ok-insert.ensures.updates.0 in
    subst (λ (v : TokensValue). NewAtHand v.held kept.held own kept.lying) c.self.view_is
    (subst (λ (held : List ℕ). NewAtHand c.self.inside.held.keys held own kept.lying) (sym c.place.ensures.held)
    (one_new c.self.inside.held.keys c.insert.new.self.keys own kept.lying c.args.token adds c.in_ok-place.ensures.comes))
