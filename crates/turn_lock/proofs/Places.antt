-- Lists and options, read by place.
use Rattle.std.proofs.Common.{◌≡◌, ℕ, zero, suc, ◌<◌, ◌⊎◌, inl, inr, ⊎_elim, List, [], ◌∷◌, ◌++◌, All, length, Some, None, Option, sym, refl, ap, subst, arith}
use Rattle.std.proofs.lemmas.List.Elements.{All-drop}
use lib.Seq.{drop-append_seam}
use lib.ListN.{get_elem?}
use mathlib.Core.Option.{some, some-injective, some-ne-none}

module _ {A : Type 0} where
  -- where a list has an element, the place is below the length
  pub at_below : (l : List A) (i : ℕ) (a : A) → get_elem? l i ≡ some a → i < length l
  at_below [] i a e = absurd (some-ne-none a (sym e))
  at_below (x ∷ xs) zero a e = omega arith
  at_below (x ∷ xs) (suc i) a e = let h = at_below xs i a e in omega arith

  pub only_one : (x a : A) (i : ℕ) → get_elem? (x ∷ []) i ≡ some a → (i ≡ 0) × (x ≡ a)
  only_one x a zero e = (refl, some-injective x a e)
  only_one x a (suc i) e = absurd (some-ne-none a (sym e))

  pub at_pushed : (l : List A) (a b : A) (j : ℕ) → get_elem? (l ++ a ∷ []) j ≡ some b → (get_elem? l j ≡ some b) ⊎ ((j ≡ length l) × (a ≡ b))
  at_pushed [] a b j e = inr (only_one a b j e)
  at_pushed (x ∷ xs) a b zero e = inl e
  at_pushed (x ∷ xs) a b (suc j) e = ⊎_elim (λ h. inl h) (λ h. inr (ap suc h.0, h.1)) (at_pushed xs a b j e)

  pub All-right : (P : A → Type 0) (xs ys : List A) → All P (xs ++ ys) → All P ys
  All-right P xs ys h = subst (All P) (drop-append_seam xs ys) (All-drop P (length xs) (xs ++ ys) h)

  tail : List A → List A
  tail [] = []
  tail (x ∷ xs) = xs

  pub same_tail : (x y : A) (xs ys : List A) → x ∷ xs ≡ y ∷ ys → xs ≡ ys
  unfolding tail
  same_tail x y xs ys e = ap tail e

  value_or : A → Option A → A
  value_or x None = x
  value_or x (Some y) = y

  pub Some-injective : (x y : A) → Some x ≡ Some y → x ≡ y
  unfolding value_or
  Some-injective x y e = ap (value_or x) e

  IsThere : Option A → Type 0
  IsThere None = ⊥
  IsThere (Some x) = Unit {0}

  pub Some-ne-None : (x : A) → Some x ≡ None → ⊥
  unfolding IsThere
  Some-ne-None x e = subst IsThere e tt
