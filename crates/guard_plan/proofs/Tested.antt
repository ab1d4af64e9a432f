-- What tests of guards answer.
use Rattle.std.proofs.Common.{◌≡◌, ℕ, zero, suc, ◌+◌, ◌-◌, ◌<◌, inl, inr, List, [], ◌∷◌, ◌++◌, length, take, Bool, true, false, Result, Ok, Err, IfOk, refl, sym, subst, arith, slice_index_or}
use Rattle.std.specs.Prelude.{IsTrue, ◌↔◌}
use Rattle.std.specs.List.{AllByRecursion}
use Rattle.std.proofs.lemmas.Bool.{false≢true}
use Rattle.akl_terms.specs.declared.name.Name.{Name}
use Rattle.akl_terms.specs.declared.term.Node.{Node}
use Rattle.akl_terms.specs.declared.term.Term.{Term}
use Rattle.akl_terms.specs.Names.{same_name}
use Rattle.akl_terms.specs.Equal.{told, IsConsistent, IsConsistentBy}
use Rattle.akl_terms.proofs.SameNames.{same_name-equal}
use Rattle.akl_terms.proofs.EqualLaws.{IsConsistent-follows, IsTold-left}
use Rattle.rational_unify.proofs.Taking.{take-next}
use Rattle.local_store.specs.Stored.{Stored}
use Rattle.local_store.specs.Chained.{ToldBy}
use Rattle.local_store.proofs.Resolved.{around-take}
use Rattle.entail_test.specs.declared.noise.Quietness.{Quietness}
use Rattle.entail_test.specs.declared.noise.Quietness.TheVariants.{Quiet, Noisy, Inconsistent}
use Rattle.entail_test.specs.Asked.{environment_at, own_at, whole_at, KeepsApartAt, IsClashAt, DecidesWhole, Answers}
use Rattle.box_tree.specs.declared.view.Alternative.{Alternative}
use Rattle.guard_plan.specs.Guards.{KeepsApartInside, IsQuietInside, HasQuiet}

module _ (nodes : List Node) (ss : List Stored) where
  -- two terms of different heads that are equal in the environment
  pub kept : KeepsApartInside nodes ss → IsConsistentBy (ToldBy nodes (take (length ss - 1) ss)) → KeepsApartAt nodes ss (length ss - 1)
  kept h c = h (subst (λ (o : List Stored). IsConsistentBy (ToldBy nodes o)) (around-take ss) c)

  around_consistent : IsConsistent (whole_at nodes ss (length ss - 1)) → IsConsistentBy (ToldBy nodes (take (length ss - 1) ss))
  around_consistent c = IsConsistent-follows (record { each = λ m. told (IsTold-left (environment_at nodes ss (length ss - 1)) (own_at nodes ss (length ss - 1)) _ _ m) }) c

  -- where the environment is inconsistent, so is the whole, and the answer says it
  pub answered : KeepsApartInside nodes ss → (a : Quietness) → DecidesWhole nodes ss (length ss - 1) a → (KeepsApartAt nodes ss (length ss - 1) → Answers nodes ss (length ss - 1) a) → Answers nodes ss (length ss - 1) a
  answered h Quiet whole answer = answer (kept h (around_consistent whole))
  answered h (Noisy on) whole answer = answer (kept h (around_consistent whole))
  answered h (Inconsistent left right) whole answer = whole

  pub says_quiet : IsQuietInside nodes ss → IsTrue true ↔ IsQuietInside nodes ss
  says_quiet q = (λ _. q, λ _. refl)

  pub says_other : (IsQuietInside nodes ss → ⊥) → IsTrue false ↔ IsQuietInside nodes ss
  says_other n = (λ e. absurd (false≢true e), λ q. absurd (n q))

  pub clash_other : (left right : Term) → IsClashAt nodes ss (length ss - 1) left right → IsQuietInside nodes ss → ⊥
  clash_other left right k q = k.1.differ (q.consistent.heads k.0 k.1.is_left k.1.is_right)

-- the alternatives that were passed by
module _ (nodes : List Node) (path : List Stored) where
  pub all_next : (P : Alternative → Type 0) (xs : List Alternative) (k : ℕ) (d : Alternative) → k < length xs → AllByRecursion P (take k xs) → P (slice_index_or xs k d) → AllByRecursion P (take (k + 1) xs)
  all_next P xs k d l h p = subst (AllByRecursion P) (sym (take-next xs k (k + 1) d l (omega arith))) (push (take k xs) h)
    where
      push : (ys : List Alternative) → AllByRecursion P ys → AllByRecursion P (ys ++ slice_index_or xs k d ∷ [])
      push [] h = (p, tt)
      push (y ∷ ys) h = (h.0, push ys h.1)

  pub has_here : (xs : List Alternative) (k : ℕ) (d : Alternative) → k < length xs → (slice_index_or xs k d).solved ≡ true → IsQuietInside nodes (path ++ (slice_index_or xs k d).store ∷ [])
      → HasQuiet nodes path xs (slice_index_or xs k d).name
  has_here [] k d l s q = absurd (omega arith)
  has_here (x ∷ xs) zero d l s q = inl (refl, s, q)
  has_here (x ∷ xs) (suc k) d l s q = inr (has_here xs k d (omega arith) s q)

  -- the same by a name that is its own, as a test answers
  pub has_named : {E : Type 0} (xs : List Alternative) (k : ℕ) (d : Alternative) → k < length xs → (n : Name) → same_name (slice_index_or xs k d).name n ≡ true → (slice_index_or xs k d).solved ≡ true
      → (r : Result Bool E) → IfOk r (λ holds. IsTrue holds ↔ IsQuietInside nodes (path ++ (slice_index_or xs k d).store ∷ [])) → IfOk r (λ quiet. IsTrue quiet → HasQuiet nodes path xs n)
  has_named xs k d l n same s (Ok holds) h = λ t. subst (HasQuiet nodes path xs) (same_name-equal _ n same) (has_here xs k d l s (h.0 t))
  has_named xs k d l n same s (Err e) h = tt

  pub all_index : (P : Alternative → Type 0) (xs : List Alternative) (k : ℕ) (d : Alternative) → k < length xs → AllByRecursion P xs → P (slice_index_or xs k d)
  all_index P [] k d l h = absurd (omega arith)
  all_index P (x ∷ xs) zero d l h = h.0
  all_index P (x ∷ xs) (suc k) d l h = all_index P xs k d (omega arith) h.1

  -- whether all of them are as one was found to be
  pub all_but_one : (P : Alternative → Type 0) (xs : List Alternative) (k : ℕ) (d : Alternative) → k < length xs → AllByRecursion P (take (k + 1) xs) → AllByRecursion P (take k xs) × P (slice_index_or xs k d)
  all_but_one P xs k d l h = pop (take k xs) (subst (AllByRecursion P) (take-next xs k (k + 1) d l (omega arith)) h)
    where
      pop : (ys : List Alternative) → AllByRecursion P (ys ++ slice_index_or xs k d ∷ []) → AllByRecursion P ys × P (slice_index_or xs k d)
      pop [] h = (tt, h.0)
      pop (y ∷ ys) h = let w : AllByRecursion P ys × P (slice_index_or xs k d) = pop ys h.1 in ((h.0, w.0), w.1)

  pub one_more : (P : Alternative → Type 0) (xs : List Alternative) (k : ℕ) (d : Alternative) → k < length xs → (b : Bool) → IsTrue b ↔ AllByRecursion P (take k xs) → P (slice_index_or xs k d)
      → IsTrue b ↔ AllByRecursion P (take (k + 1) xs)
  one_more P xs k d l b h p = (λ e. all_next P xs k d l (h.0 e) p, λ a. h.1 (all_but_one P xs k d l a).0)

  pub one_fails : (P : Alternative → Type 0) (xs : List Alternative) (k : ℕ) (d : Alternative) → k < length xs → (P (slice_index_or xs k d) → ⊥) → IsTrue false ↔ AllByRecursion P (take (k + 1) xs)
  one_fails P xs k d l n = (λ e. absurd (false≢true e), λ a. absurd (n (all_but_one P xs k d l a).1))
