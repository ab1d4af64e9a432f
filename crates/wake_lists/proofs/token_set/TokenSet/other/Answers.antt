use Rattle.std.proofs.Common.{List, ℕ, Some, None, sym, ap, ◌∙◌, subst, arith}
use Rattle.std.specs.Prelude.{◌==◌, not}
use Rattle.std.specs.List.{find}
use Rattle.wake_lists.specs.TokenSets.{IsOtherIn}
use Rattle.wake_lists.proofs.TokensIn.{other_is, other_in_first, no_other, none_in_empty, set_is_empty, first_of_set, last_of_set}
use Rattle.wake_lists.proofs.token_set.TokenSet.other.Goals as goal

pub returns-in-Some : goal.returns-in-Some
returns-in-Some c =
    let short = subst (IsOtherIn c.self.inside.short.items c.args.token) (sym (c.another.ensures ∙ ap (find (λ t. not (t == c.args.token))) c.as_slice.ensures) ∙ c.in-Some.is) (other_is c.self.inside.short.items c.args.token) in
    subst (λ (ts : List ℕ). IsOtherIn ts c.args.token (Some c.in-Some.found)) c.self.view_is (other_in_first c.self.inside.short.items c.self.inside.rest.keys c.args.token c.in-Some.found short)

pub returns-in_default-copied : goal.returns-in_default-copied
returns-in_default-copied c =
    let short = subst (IsOtherIn c.self.inside.short.items c.args.token) (sym (c.another.ensures ∙ ap (find (λ t. not (t == c.args.token))) c.as_slice.ensures) ∙ c.in_default.is) (other_is c.self.inside.short.items c.args.token) in
    let empty = set_is_empty c.self.inside.rest c.first.result c.first.ensures.variant (sym c.copied.ensures ∙ c.in_default-copied.is) in
    subst (λ (ts : List ℕ). IsOtherIn ts c.args.token None) c.self.view_is
    (no_other c.self.inside.short.items c.self.inside.rest.keys c.args.token short (none_in_empty c.self.inside.rest.keys empty c.args.token))

pub returns-else-last-token : goal.returns-else-last-token
returns-else-last-token c =
    let short = subst (IsOtherIn c.self.inside.short.items c.args.token) (sym (c.another.ensures ∙ ap (find (λ t. not (t == c.args.token))) c.as_slice.ensures) ∙ c.in_default.is) (other_is c.self.inside.short.items c.args.token) in
    let first = first_of_set c.self.inside.rest c.first.result c.first.ensures.member c.first.ensures.least c.in-Some-copied.first (sym c.copied.ensures ∙ c.in-Some-copied.is) in
    let last = last_of_set c.self.inside.rest c.last.result c.last.ensures.greatest c.in_ok-last.last (sym c.copied-2.ensures ∙ c.in_ok-last.was) in
    subst (λ (ts : List ℕ). IsOtherIn ts c.args.token None) c.self.view_is
    (no_other c.self.inside.short.items c.self.inside.rest.keys c.args.token short
    (λ s e. let low = first.1 s e in let high = last s e in omega (arith, low, high, c.if-first-token.false, c.if-last-token.false)))
