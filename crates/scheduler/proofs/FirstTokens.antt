-- Tokens without a gap, when one more place is opened under the least that is free.
use Rattle.std.proofs.Common.{◌≡◌, ℕ, suc, ◌<◌, Bool, true, false, [], length, Some, refl, sym, ap, ◌∙◌, inl, inr, arith}
use Rattle.std.specs.Prelude.{cond, is_some, IsSome}
use Rattle.std.specs.BTreeMap.{insert_entry}
use Rattle.std.specs.Ordering.{nat_cmp}
use Rattle.akl_model.proofs.Orders.{lt_or}
use Rattle.wake_lists.specs.Open.{Opening, Openings, opening_at, IsLeastToken}
use Rattle.wake_lists.proofs.Keys.{token_equal, token_here}
use Rattle.scheduler.specs.Openings.{AreFirstTokens}
use Rattle.scheduler.proofs.OpeningLists.{put_at, put_length}
use lib.Dec.{eqb}

pub none_first : AreFirstTokens []
none_first token = (λ e. cc, λ l. absurd (omega (arith, l)))

module _ (os : Openings) (first : AreFirstTokens os) (t : ℕ) (least : IsLeastToken os t) (o : Opening) where
  is_count : t ≡ length os
  is_count = elim (lt_or t (length os)) [
    | inl l ↦ absurd (let no : true ≡ false = sym ((first t).1 l) ∙ ap is_some least.free in cc)
    | inr w ↦ elim w [ inl e ↦ e | inr l ↦ let no : length os < length os = (first (length os)).0 (least.least (length os) l) in absurd (omega (arith, no)) ]
  ]

  abbrev now : Openings
  now = insert_entry nat_cmp os t o

  long : length now ≡ suc (length os)
  long = put_length t o os least.free

  at : (s : ℕ) → opening_at s now ≡ cond (eqb s t) (Some o) (opening_at s os)
  at = put_at t o os

  below : (s : ℕ) → IsSome (opening_at s now) → s < length now
  below s e = on (eqb s t) refl (ap is_some (sym (at s)) ∙ e)
    where
      on : (b : Bool) → eqb s t ≡ b → is_some (cond b (Some o) (opening_at s os)) ≡ true → s < length now
      on true f g = let same : s ≡ t = token_equal s t f in let count : t ≡ length os = is_count in let l : length now ≡ suc (length os) = long in omega (arith, same, count, l)
      on false f g = let less : s < length os = (first s).0 g in let l : length now ≡ suc (length os) = long in omega (arith, less, l)

  leads : (s : ℕ) → s < length now → IsSome (opening_at s now)
  leads s l = ap is_some (at s) ∙ on (eqb s t) refl
    where
      on : (b : Bool) → eqb s t ≡ b → is_some (cond b (Some o) (opening_at s os)) ≡ true
      on true f = refl
      on false f = elim (lt_or s (length os)) [
        | inl less ↦ (first s).1 less
        | inr w ↦ elim w [
          | inl e ↦ let here : eqb s t ≡ true = ap (λ (k : ℕ). eqb k t) (e ∙ sym is_count) ∙ token_here t in absurd (let no : true ≡ false = sym here ∙ f in cc)
          | inr more ↦ let k : length now ≡ suc (length os) = long in absurd (omega (arith, l, more, k))
        ]
      ]

  pub first_more : AreFirstTokens now
  first_more s = (below s, leads s)
