-- Tokens that are at hand, when more are held.
use Rattle.std.proofs.Common.{◌≡◌, ℕ, ◌==◌, Bool, true, false, List, [], ◌∷◌, ◌++◌, Result, Ok, Err, refl, sym, ap, ◌∙◌, ◌⊎◌, inl, inr, arith}
use Rattle.std.proofs.lemmas.Bool.Decides.{nat_tests}
use Rattle.std.specs.Prelude.{◌||◌, is_ok, OnOk}
use Rattle.wake_lists.specs.TokenSets.{is_token_in, Adds}
use Rattle.par_workers.specs.Tokens.{IsAtHand, StayAtHand, NewAtHand}
use Rattle.par_workers.proofs.Dealing.{token_last, token_still, token_before}

-- one more is held, and at hand
pub one_new : (before now line late : List ℕ) (n : ℕ) → Adds before now n → IsAtHand n line late → NewAtHand before now line late
one_new before now line late n adds at t e = on (is_token_in t before) refl (t == n) refl (sym (adds t) ∙ e)
  where
    on : (a : Bool) → is_token_in t before ≡ a → (b : Bool) → (t == n) ≡ b → (a || b) ≡ true → (is_token_in t before ≡ true) ⊎ IsAtHand t line late
    on true f b g h = inl f
    on false f true g h = let same : n ≡ t = grind (arith, nat_tests) in inr (subst_at same)
      where
        subst_at : n ≡ t → IsAtHand t line late
        subst_at same = rw (sym same) at
    on false f false g h = absurd (let no : false ≡ true = h in cc)

-- one after the other
pub more_new : (a b c : List ℕ) (line late line_now late_now : List ℕ) → NewAtHand a b line late → StayAtHand line late line_now late_now → NewAtHand b c line_now late_now → NewAtHand a c line_now late_now
more_new a b c line late line_now late_now first stay then t e = elim (then t e) [
  | inl f ↦ elim (first t f) [ inl g ↦ inl g | inr g ↦ inr (stay t g) ]
  | inr f ↦ inr f
]

-- the last of a list goes to the end of another one
pub last_moved : (line pushed line_now pushed_now : List ℕ) (n : ℕ) → line ≡ line_now ++ n ∷ [] → pushed_now ≡ pushed ++ n ∷ [] → StayAtHand line pushed line_now pushed_now
last_moved line pushed line_now pushed_now n goes comes t (inl e) = elim (token_before line_now n t (sym (ap (is_token_in t) goes) ∙ e)) [
  | inl f ↦ inl f
  | inr f ↦ inr (ap (is_token_in t) comes ∙ ap (λ (k : ℕ). is_token_in k (pushed ++ n ∷ [])) f ∙ token_last pushed n)
]
last_moved line pushed line_now pushed_now n goes comes t (inr e) = inr (ap (is_token_in t) comes ∙ token_still pushed n t e)

pub where_ok : {T E P : Type 0} (r : Result T E) → is_ok r ≡ true → OnOk r P → P
where_ok (Ok x) is p = p
where_ok (Err x) is p = absurd (let no : false ≡ true = is in cc)
