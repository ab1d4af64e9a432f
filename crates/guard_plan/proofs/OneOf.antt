-- What stands in a list that grows by one at its end.
use Rattle.std.proofs.Common.{◌≡◌, ◌+◌, ◌<◌, ℕ, List, [], ◌∷◌, ◌++◌, length, take, refl, sym, subst, ◌⊎◌, inl, inr, slice_index_or, arith}
use Rattle.rational_unify.proofs.Taking.{take-next}
use Rattle.guard_plan.specs.Noisy.{IsOne}

pub one_push : (A : Type 0) (a b : A) (bs : List A) → IsOne A a bs → IsOne A a (bs ++ b ∷ [])
one_push A a b [] h = absurd h
one_push A a b (c ∷ bs) (inl e) = inl e
one_push A a b (c ∷ bs) (inr h) = inr (one_push A a b bs h)

pub one_last : (A : Type 0) (b : A) (bs : List A) → IsOne A b (bs ++ b ∷ [])
one_last A b [] = inl refl
one_last A b (c ∷ bs) = inr (one_last A b bs)

pub one_pushed : (A : Type 0) (a b : A) (bs : List A) → IsOne A a (bs ++ b ∷ []) → IsOne A a bs ⊎ (a ≡ b)
one_pushed A a b [] (inl e) = inr e
one_pushed A a b [] (inr h) = absurd h
one_pushed A a b (c ∷ bs) (inl e) = inl (inl e)
one_pushed A a b (c ∷ bs) (inr h) = elim (one_pushed A a b bs h) [ inl k ↦ inl (inr k) | inr e ↦ inr e ]

-- the first of a list, and one more
module _ (A : Type 0) (xs : List A) (k : ℕ) (d : A) (l : k < length xs) where
  next : take (k + 1) xs ≡ take k xs ++ slice_index_or xs k d ∷ []
  next = take-next xs k (k + 1) d l (omega arith)

  pub still_one : (a : A) → IsOne A a (take k xs) → IsOne A a (take (k + 1) xs)
  still_one a h = subst (IsOne A a) (sym next) (one_push A a (slice_index_or xs k d) (take k xs) h)

  pub also_one : IsOne A (slice_index_or xs k d) (take (k + 1) xs)
  also_one = subst (IsOne A (slice_index_or xs k d)) (sym next) (one_last A (slice_index_or xs k d) (take k xs))

  pub one_or_last : (a : A) → IsOne A a (take (k + 1) xs) → IsOne A a (take k xs) ⊎ (a ≡ slice_index_or xs k d)
  one_or_last a h = one_pushed A a (slice_index_or xs k d) (take k xs) (subst (IsOne A a) next h)
