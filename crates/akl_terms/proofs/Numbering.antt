-- How a new symbol is numbered.
use Rattle.std.proofs.Common.{◌≡◌, ℕ, suc, zero, List, [], ◌∷◌, ◌++◌, length, slice_get, Some, refl, ap, ◌⊎◌, inl, inr, arith}
use Rattle.std.proofs.lemmas.Option.{slice_get_within}

-- an element of a list stays where it is when the list grows
pub slice_get-front : {A : Type 0} (xs ys : List A) (n : ℕ) (x : A) → slice_get xs n ≡ Some x → slice_get (xs ++ ys) n ≡ Some x
slice_get-front {A} [] ys n x e = absurd (omega (arith, slice_get_within [] n x e))
slice_get-front (z ∷ xs) ys zero x e = e
slice_get-front (z ∷ xs) ys (suc n) x e = slice_get-front xs ys n x e

-- the element behind a list
pub slice_get-behind : {A : Type 0} (xs : List A) (y : A) → slice_get (xs ++ y ∷ []) (length xs) ≡ Some y
slice_get-behind [] y = refl
slice_get-behind (z ∷ xs) y = slice_get-behind xs y

-- an element of a list with one more is of the list, or that one
pub slice_get-one_more : {A : Type 0} (xs : List A) (y : A) (n : ℕ) (x : A) → slice_get (xs ++ y ∷ []) n ≡ Some x
    → (slice_get xs n ≡ Some x) ⊎ ((n ≡ length xs) × (x ≡ y))
slice_get-one_more [] y zero x e = inr (refl, cc)
slice_get-one_more [] y (suc n) x e = absurd (omega (arith, slice_get_within (y ∷ []) (suc n) x e))
slice_get-one_more (z ∷ xs) y zero x e = inl e
slice_get-one_more (z ∷ xs) y (suc n) x e = elim (slice_get-one_more xs y n x e) [ inl h ↦ inl h | inr h ↦ inr (ap suc h.0, h.1) ]
