-- A token that is taken out of a list, and those that stay.
use Rattle.std.proofs.Common.{◌≡◌, ℕ, zero, suc, ◌<◌, Bool, true, false, List, [], ◌∷◌, length, get_or, Some, None, refl, sym, ap, ◌∙◌, ◌⊎◌, inl, inr, arith}
use Rattle.std.specs.Prelude.{◌||◌}
use Rattle.std.specs.List.{remove}
use Rattle.wake_lists.specs.TokenSets.{is_token_in}
use Rattle.wake_lists.proofs.Keys.{token_here, token_equal}
use Rattle.par_workers.specs.Tokens.{IsTakenFrom}
use lib.Dec.{eqb}

either : (a b : Bool) → (a || b) ≡ true → (a ≡ true) ⊎ (b ≡ true)
either true b e = inl refl
either false b e = inr e

second : (a b : Bool) → b ≡ true → (a || b) ≡ true
second true b e = refl
second false b e = e

at_index : (xs : List ℕ) (i x : ℕ) → i < length xs → x ≡ get_or xs i x → is_token_in x xs ≡ true
at_index [] i x less is = absurd (omega arith)
at_index (y ∷ ys) zero x less is = ap (λ (b : Bool). b || is_token_in x ys) (ap (eqb x) (sym is) ∙ token_here x)
at_index (y ∷ ys) (suc i) x less is = second (eqb x y) (is_token_in x ys) (at_index ys i x (omega arith) is)

others_stay : (xs : List ℕ) (i x : ℕ) → i < length xs → x ≡ get_or xs i x → (t : ℕ) → is_token_in t xs ≡ true → (Some x ≡ Some t) ⊎ (is_token_in t (remove xs i) ≡ true)
others_stay [] i x less is t e = absurd (omega arith)
others_stay (y ∷ ys) zero x less is t e = elim (either (eqb t y) (is_token_in t ys) e) [ inl f ↦ inl (ap Some (is ∙ sym (token_equal t y f))) | inr f ↦ inr f ]
others_stay (y ∷ ys) (suc i) x less is t e = elim (either (eqb t y) (is_token_in t ys) e) [
  | inl f ↦ inr (ap (λ (b : Bool). b || is_token_in t (remove ys i)) f)
  | inr f ↦ elim (others_stay ys i x (omega arith) is t f) [ inl g ↦ inl g | inr g ↦ inr (second (eqb t y) (is_token_in t (remove ys i)) g) ]
]

pub taken_out : (xs ys : List ℕ) (i x : ℕ) → i < length xs → x ≡ get_or xs i x → ys ≡ remove xs i → IsTakenFrom xs (Some x) ys
taken_out xs ys i x less is now = record {
  was = at_index xs i x less is;
  stay = λ t e. elim (others_stay xs i x less is t e) [ inl f ↦ inl f | inr f ↦ inr (ap (is_token_in t) now ∙ f) ];
}

pub none_taken : (xs : List ℕ) → IsTakenFrom xs None xs
none_taken xs = record { was = tt; stay = λ t e. inr e }
