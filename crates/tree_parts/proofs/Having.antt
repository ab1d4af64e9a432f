-- What lists have.
use Rattle.std.proofs.Common.{◌≡◌, ◌≢◌, ℕ, zero, suc, ◌+◌, ◌<◌, List, [], ◌∷◌, ◌++◌, length, map, refl, ◌∙◌, ap, inl, inr, arith, length-append}
use Rattle.std.specs.Prelude.{◌⊎◌}
use Rattle.std.proofs.Math.ListN.{get_or-append}
use Rattle.std.proofs.Math.Seq.{get_or-append_seam}
use Rattle.tree_parts.specs.Firsts.{at_node}
use Rattle.tree_parts.specs.Lists.{Has}
use Rattle.tree_parts.proofs.Rounds.{either_nat}

pub either-has : (xs : List ℕ) (i : ℕ) → Has xs i ⊎ (Has xs i → ⊥)
either-has [] i = inr (λ h. h)
either-has (x ∷ xs) i = from (either_nat x i) (either-has xs i)
  where
    from : (x ≡ i) ⊎ (x ≢ i) → Has xs i ⊎ (Has xs i → ⊥) → Has (x ∷ xs) i ⊎ (Has (x ∷ xs) i → ⊥)
    from (inl e) o = inl (inl e)
    from (inr d) (inl h) = inl (inr h)
    from (inr d) (inr n) = inr (λ h. elim h [ inl e ↦ d e | inr k ↦ n k ])

pub has-left : (xs ys : List ℕ) (i : ℕ) → Has xs i → Has (xs ++ ys) i
has-left [] ys i h = absurd h
has-left (x ∷ xs) ys i (inl e) = inl e
has-left (x ∷ xs) ys i (inr h) = inr (has-left xs ys i h)

pub has-right : (xs ys : List ℕ) (i : ℕ) → Has ys i → Has (xs ++ ys) i
has-right [] ys i h = h
has-right (x ∷ xs) ys i h = inr (has-right xs ys i h)

pub has-either : (xs ys : List ℕ) (i : ℕ) → Has (xs ++ ys) i → Has xs i ⊎ Has ys i
has-either [] ys i h = inr h
has-either (x ∷ xs) ys i (inl e) = inl (inl e)
has-either (x ∷ xs) ys i (inr h) = elim (has-either xs ys i h) [ inl k ↦ inl (inr k) | inr k ↦ inr k ]

pub has-last : (xs : List ℕ) (i : ℕ) → Has (xs ++ i ∷ []) i
has-last xs i = has-right xs (i ∷ []) i (inl refl)

pub has-at : (xs : List ℕ) (t : ℕ) → t < length xs → Has xs (at_node xs t)
has-at [] t h = absurd (omega (arith, h))
has-at (x ∷ xs) zero h = inl refl
has-at (x ∷ xs) (suc t) h = inr (has-at xs t (omega (arith, h)))

pub has-place : (xs : List ℕ) (i : ℕ) → Has xs i → (t : ℕ) × (t < length xs) × (at_node xs t ≡ i)
has-place [] i h = absurd h
has-place (x ∷ xs) i (inl e) = (0, omega arith, e)
has-place (x ∷ xs) i (inr h) = let r : (t : ℕ) × (t < length xs) × (at_node xs t ≡ i) = has-place xs i h in let l : r.0 < length xs = r.1 in (suc r.0, omega (arith, l), r.2)

pub has-map : (f : ℕ → ℕ) (xs : List ℕ) (i : ℕ) → Has xs i → Has (map f xs) (f i)
has-map f [] i h = absurd h
has-map f (x ∷ xs) i (inl e) = inl (ap f e)
has-map f (x ∷ xs) i (inr h) = inr (has-map f xs i h)

pub map-has : (f : ℕ → ℕ) (xs : List ℕ) (i : ℕ) → Has (map f xs) i → (t : ℕ) × Has xs t × (f t ≡ i)
map-has f [] i h = absurd h
map-has f (x ∷ xs) i (inl e) = (x, inl refl, e)
map-has f (x ∷ xs) i (inr h) = let r : (t : ℕ) × Has xs t × (f t ≡ i) = map-has f xs i h in (r.0, inr r.1, r.2)

-- what an element more leaves, and where it stands
pub at-old : (xs : List ℕ) (x i : ℕ) → i < length xs → at_node (xs ++ x ∷ []) i ≡ at_node xs i
at-old xs x i h = get_or-append xs (x ∷ []) 0 i h

pub at-new : (xs : List ℕ) (x i : ℕ) → i ≡ length xs → at_node (xs ++ x ∷ []) i ≡ x
at-new xs x i e = ap (at_node (xs ++ x ∷ [])) e ∙ get_or-append_seam xs x [] 0

pub one-longer : (xs : List ℕ) (x : ℕ) → length (xs ++ x ∷ []) ≡ length xs + 1
one-longer xs x = length-append xs (x ∷ [])

pub less-cases : (i n : ℕ) → i < n + 1 → (i < n) ⊎ (i ≡ n)
less-cases zero zero h = inr refl
less-cases zero (suc n) h = inl (omega arith)
less-cases (suc i) zero h = absurd (omega (arith, h))
less-cases (suc i) (suc n) h = elim (less-cases i n (omega (arith, h))) [ inl l ↦ inl (omega (arith, l)) | inr e ↦ inr (ap suc e) ]
