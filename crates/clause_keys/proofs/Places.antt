-- Places in lists that grow at their end.
use Rattle.std.proofs.Common.{◌≡◌, arith, ℕ, zero, suc, ◌+◌, List, [], ◌∷◌, ◌++◌, length, Some, ◌⊎◌, inl, inr, refl, ap, ◌∙◌}
use Rattle.std.specs.Prelude.{slice_get, take, ◌-◌}

pub get_front : {X : Type 0} (xs ys : List X) (i : ℕ) (x : X) → slice_get xs i ≡ Some x → slice_get (xs ++ ys) i ≡ Some x
get_front [] ys i x e = absurd cc
get_front (y ∷ xs) ys zero x e = e
get_front (y ∷ xs) ys (suc i) x e = get_front xs ys i x e

pub get_last : {X : Type 0} (xs : List X) (x : X) → slice_get (xs ++ x ∷ []) (length xs) ≡ Some x
get_last [] x = refl
get_last (y ∷ xs) x = get_last xs x

-- a place of the longer list is one of the shorter, or the last
pub get_split : {X : Type 0} (xs : List X) (x y : X) (i : ℕ) → slice_get (xs ++ x ∷ []) i ≡ Some y → (slice_get xs i ≡ Some y) ⊎ ((i ≡ length xs) × (x ≡ y))
get_split [] x y zero e = inr (refl, cc)
get_split [] x y (suc i) e = absurd cc
get_split (z ∷ xs) x y zero e = inl e
get_split (z ∷ xs) x y (suc i) e = get_further (get_split xs x y i e)
  where
    get_further : (slice_get xs i ≡ Some y) ⊎ ((i ≡ length xs) × (x ≡ y)) → (slice_get (z ∷ xs) (suc i) ≡ Some y) ⊎ ((suc i ≡ length (z ∷ xs)) × (x ≡ y))
    get_further (inl f) = inl f
    get_further (inr f) = inr (ap suc f.0, f.1)

take_front : {X : Type 0} (xs ys : List X) → take (length xs) (xs ++ ys) ≡ xs
take_front [] ys = refl
take_front (x ∷ xs) ys = ap (λ (z : List _). x ∷ z) (take_front xs ys)

-- what was put at the end was taken away again
pub popped : {X : Type 0} (xs ys whole : List X) (x : X) (n : ℕ) → whole ≡ xs ++ x ∷ [] → n ≡ length xs + 1 → ys ≡ take (n - 1) whole → ys ≡ xs
popped xs ys whole x n e f g =
    let h : n - 1 ≡ length xs = omega (arith, f) in
    g ∙ rw (h, e) (take_front xs (x ∷ []))
