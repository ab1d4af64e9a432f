-- Places in lists.
use Rattle.std.proofs.Common.{◌≡◌, ◌≢◌, ℕ, zero, suc, ◌+◌, ◌-◌, ◌<◌, ◌≤◌, List, [], ◌∷◌, ◌++◌, length, Some, refl, sym, ◌∙◌, ap, inl, inr, arith, Bool, true, false}
use Rattle.std.specs.Prelude.{◌⊎◌, ◌==◌, slice_get, slice_set}
use Rattle.std.proofs.lemmas.Bool.{eqb-true, eqb-false}
use Rattle.std.proofs.lemmas.Option.{slice_get_within}
use Rattle.cycle_marks.specs.Searching.{At}

pub either_nat : (a b : ℕ) → (a ≡ b) ⊎ (a ≢ b)
either_nat a b = test (a == b) refl
  where
    test : (t : Bool) → (a == b) ≡ t → (a ≡ b) ⊎ (a ≢ b)
    test true e = inl (eqb-true a b e)
    test false e = inr (λ d. eqb-false a b e d)

pub either_less : (a b : ℕ) → (a < b) ⊎ (b ≤ a)
either_less zero zero = inr (omega arith)
either_less zero (suc b) = inl (omega arith)
either_less (suc a) zero = inr (omega arith)
either_less (suc a) (suc b) = elim (either_less a b) [ inl l ↦ inl (omega (arith, l)) | inr l ↦ inr (omega (arith, l)) ]

pub at-set : {A : Type 0} (xs : List A) (i : ℕ) (x y : A) → At xs i x → At (slice_set xs i y) i y
at-set [] i x y e = absurd cc
at-set (z ∷ xs) zero x y e = refl
at-set (z ∷ xs) (suc i) x y e = at-set xs i x y e

pub set-other : {A : Type 0} (xs : List A) (i j : ℕ) (y : A) → i ≢ j → slice_get (slice_set xs i y) j ≡ slice_get xs j
set-other [] i j y h = refl
set-other (z ∷ xs) zero zero y h = absurd (h refl)
set-other (z ∷ xs) zero (suc j) y h = refl
set-other (z ∷ xs) (suc i) zero y h = refl
set-other (z ∷ xs) (suc i) (suc j) y h = set-other xs i j y (λ e. h (ap suc e))

pub at-further : {A : Type 0} (xs ys : List A) (i : ℕ) → slice_get (xs ++ ys) (length xs + i) ≡ slice_get ys i
at-further [] ys i = let e : 0 + i ≡ i = omega arith in ap (slice_get ys) e
at-further (x ∷ xs) ys i = let e : suc (length xs) + i ≡ suc (length xs + i) = omega arith in ap (slice_get (x ∷ xs ++ ys)) e ∙ at-further xs ys i

pub at-either : {A : Type 0} (xs ys : List A) (i : ℕ) (x : A) → At (xs ++ ys) i x → At xs i x ⊎ ((length xs ≤ i) × At ys (i - length xs) x)
at-either [] ys i x e = let z : i - 0 ≡ i = omega arith in inr (omega arith, ap (slice_get ys) z ∙ e)
at-either (y ∷ xs) ys zero x e = inl e
at-either (y ∷ xs) ys (suc i) x e = elim (at-either xs ys i x e) [
  | inl h ↦ inl h
  | inr h ↦ let z : suc i - suc (length xs) ≡ i - length xs = omega arith in inr (omega (arith, h.0), ap (slice_get ys) z ∙ h.1)
]

-- a number has a place in a list, or it has none
pub find : (xs : List ℕ) (x : ℕ) → ((k : ℕ) × At xs k x) ⊎ ((k : ℕ) → At xs k x → ⊥)
find [] x = inr (λ k e. absurd cc)
find (y ∷ xs) x = from (either_nat y x) (find xs x)
  where
    from : (y ≡ x) ⊎ (y ≢ x) → ((k : ℕ) × At xs k x) ⊎ ((k : ℕ) → At xs k x → ⊥) → ((k : ℕ) × At (y ∷ xs) k x) ⊎ ((k : ℕ) → At (y ∷ xs) k x → ⊥)
    from (inl e) f = inl (0, ap Some e)
    from (inr d) (inl f) = inl (suc f.0, f.1)
    from (inr d) (inr f) = inr at
      where
        at : (k : ℕ) → At (y ∷ xs) k x → ⊥
        at zero e = d (let o : Some y ≡ Some x = e in cc)
        at (suc k) e = f k e

-- one place has one element
pub at-one : {A : Type 0} (xs : List A) {i j : ℕ} {x y : A} → i ≡ j → At xs i x → At xs j y → x ≡ y
at-one xs {x = x} {y = y} e a b = let o : Some x ≡ Some y = sym a ∙ ap (slice_get xs) e ∙ b in cc

-- where a list is empty, nothing is at a place
pub none-there : {A : Type 0} (xs : List A) (i : ℕ) (x : A) → xs ≡ [] → At xs i x → ⊥
none-there xs i x e a = let l : i < length xs = slice_get_within xs i x a in let z : length xs ≡ 0 = ap length e in omega (arith, l, z)
