use Rattle.std.proofs.Common.{List, ℕ, Some, min, refl, sym, ap, ◌∙◌, subst, arith, inl, inr}
use Rattle.std.specs.List.{reduce}
use Rattle.wake_lists.specs.TokenSets.{IsLeastIn}
use Rattle.wake_lists.proofs.TokensIn.{least_is, least_of_both, least_in_first, least_in_second, set_is_empty, first_of_set}
use Rattle.wake_lists.proofs.token_set.TokenSet.first.Goals as goal

pub returns-in_default : goal.returns-in_default
returns-in_default c =
    let short = subst (IsLeastIn c.self.inside.short.items) (sym (c.least-short.ensures ∙ ap (reduce min) c.as_slice.ensures)) (least_is c.self.inside.short.items) in
    subst (λ (ts : List ℕ). IsLeastIn ts c.least-short.result) c.self.view_is
    (least_in_first c.self.inside.short.items c.self.inside.rest.keys c.least-short.result (set_is_empty c.self.inside.rest c.first.result c.first.ensures.variant (sym c.copied.ensures ∙ c.in_default.is)) short)

pub returns-then-token-first : goal.returns-then-token-first
returns-then-token-first c =
    let short = subst (IsLeastIn c.self.inside.short.items) (sym (c.least-short.ensures ∙ ap (reduce min) c.as_slice.ensures) ∙ c.in-Some-short.is) (least_is c.self.inside.short.items) in
    let rest = first_of_set c.self.inside.rest c.first.result c.first.ensures.member c.first.ensures.least c.in-Some.first (sym c.copied.ensures ∙ c.in-Some.is) in
    subst (λ (ts : List ℕ). IsLeastIn ts (Some c.in-Some-short.token)) c.self.view_is
    (least_of_both c.self.inside.short.items c.self.inside.rest.keys c.in-Some-short.token c.in-Some.first short rest c.in-Some-short.token (inl refl) (omega arith) (omega (arith, c.if-token-first.true)))

pub returns-else-token-first : goal.returns-else-token-first
returns-else-token-first c =
    let short = subst (IsLeastIn c.self.inside.short.items) (sym (c.least-short.ensures ∙ ap (reduce min) c.as_slice.ensures) ∙ c.in-Some-short.is) (least_is c.self.inside.short.items) in
    let rest = first_of_set c.self.inside.rest c.first.result c.first.ensures.member c.first.ensures.least c.in-Some.first (sym c.copied.ensures ∙ c.in-Some.is) in
    subst (λ (ts : List ℕ). IsLeastIn ts (Some c.in-Some.first)) c.self.view_is
    (least_of_both c.self.inside.short.items c.self.inside.rest.keys c.in-Some-short.token c.in-Some.first short rest c.in-Some.first (inr refl) (omega (arith, c.if-token-first.false)) (omega arith))

pub returns-in-None : goal.returns-in-None
returns-in-None c =
    let short = subst (IsLeastIn c.self.inside.short.items) (sym (c.least-short.ensures ∙ ap (reduce min) c.as_slice.ensures) ∙ c.in-None.is) (least_is c.self.inside.short.items) in
    subst (λ (ts : List ℕ). IsLeastIn ts (Some c.in-Some.first)) c.self.view_is
    (least_in_second c.self.inside.short.items c.self.inside.rest.keys (Some c.in-Some.first) short
    (first_of_set c.self.inside.rest c.first.result c.first.ensures.member c.first.ensures.least c.in-Some.first (sym c.copied.ensures ∙ c.in-Some.is)))
