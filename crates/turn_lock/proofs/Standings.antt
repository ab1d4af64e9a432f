-- Counts over the views of all passes, and facts of each that was not joined.
use Rattle.std.proofs.Common.{◌≡◌, ◌≢◌, ℕ, zero, suc, ◌+◌, ◌<◌, ◌≤◌, ⊎_elim, List, [], ◌∷◌, ◌++◌, length, set, Some, None, Option, sym, refl, ap, ◌∙◌, subst, arith}
use Rattle.atomic_table.proofs.Lists.{at_set}
use lib.ListN.{get_elem?}
use mathlib.Core.Option.{some, some-injective, some-ne-none}
use Rattle.turn_lock.specs.declared.view.Standing.{Standing}
use Rattle.turn_lock.specs.Kept.{spent_count}
use Rattle.turn_lock.proofs.Places.{at_pushed, Some-injective, Some-ne-None}

module _ {F E : Type 0} where
  pub spent_count-set_live : (vs : List (Option (Standing F E))) (i : ℕ) (s t : Standing F E) → get_elem? vs i ≡ some (Some s) → spent_count (set vs i (Some t)) ≡ spent_count vs
  spent_count-set_live [] i s t h = absurd (some-ne-none (Some s) (sym h))
  spent_count-set_live (x ∷ xs) zero s t h = subst (λ y. spent_count xs ≡ spent_count (y ∷ xs)) (sym (some-injective x (Some s) h)) refl
  spent_count-set_live (None ∷ xs) (suc i) s t h = ap (λ n. n + 1) (spent_count-set_live xs i s t h)
  spent_count-set_live (Some x ∷ xs) (suc i) s t h = spent_count-set_live xs i s t h

  pub spent_count-set_spent : (vs : List (Option (Standing F E))) (i : ℕ) (s : Standing F E) → get_elem? vs i ≡ some (Some s) → spent_count (set vs i None) ≡ spent_count vs + 1
  spent_count-set_spent [] i s h = absurd (some-ne-none (Some s) (sym h))
  spent_count-set_spent (None ∷ xs) zero s h = absurd (Some-ne-None s (some-injective (Some s) None (sym h)))
  spent_count-set_spent (Some t ∷ xs) zero s h = refl
  spent_count-set_spent (None ∷ xs) (suc i) s h = ap (λ n. n + 1) (spent_count-set_spent xs i s h)
  spent_count-set_spent (Some t ∷ xs) (suc i) s h = spent_count-set_spent xs i s h

  pub spent_count-push : (vs : List (Option (Standing F E))) (s : Standing F E) → spent_count (vs ++ Some s ∷ []) ≡ spent_count vs
  spent_count-push [] s = refl
  spent_count-push (None ∷ xs) s = ap (λ n. n + 1) (spent_count-push xs s)
  spent_count-push (Some t ∷ xs) s = spent_count-push xs s

  spent_count-le : (vs : List (Option (Standing F E))) → spent_count vs ≤ length vs
  spent_count-le [] = omega arith
  spent_count-le (None ∷ xs) = let h = spent_count-le xs in omega arith
  spent_count-le (Some s ∷ xs) = let h = spent_count-le xs in omega arith

  all_spent : (vs : List (Option (Standing F E))) → length vs ≤ spent_count vs → (p : ℕ) → p < length vs → get_elem? vs p ≡ some None
  all_spent [] le p l = absurd (omega arith)
  all_spent (None ∷ xs) le zero l = refl
  all_spent (None ∷ xs) le (suc p) l = all_spent xs (omega arith) p (omega arith)
  all_spent (Some s ∷ xs) le p l = let h = spent_count-le xs in absurd (omega arith)

  -- where all passes but the first were joined
  pub others_spent : (vs : List (Option (Standing F E))) (s : Standing F E) → get_elem? vs 0 ≡ some (Some s) → length vs ≡ spent_count vs + 1 → (p : ℕ) → 0 < p → p < length vs → get_elem? vs p ≡ some None
  others_spent [] s e is p positive l = absurd (omega arith)
  others_spent (None ∷ xs) s e is p positive l = absurd (Some-ne-None s (some-injective (Some s) None (sym e)))
  others_spent (Some x ∷ xs) s e is zero positive l = absurd (omega arith)
  others_spent (Some x ∷ xs) s e is (suc p) positive l = all_spent xs (omega arith) p (omega arith)

  -- what holds of a view that changes, and of all others, holds of each
  pub each_set : (P : ℕ → Standing F E → Type 0) (vs : List (Option (Standing F E))) (place : ℕ) (w : Standing F E) → P place w → ((j : ℕ) (u : Standing F E) → j ≢ place → get_elem? vs j ≡ some (Some u) → P j u)
      → (j : ℕ) (u : Standing F E) → get_elem? (set vs place (Some w)) j ≡ some (Some u) → P j u
  each_set P vs place w mine others j u e = ⊎_elim
      (λ (x : (j ≡ place) × (Some w ≡ Some u)). subst (λ (y : ℕ × Standing F E). P y.0 y.1) (λ i. (sym x.0 i, Some-injective w u x.1 i)) mine)
      (λ (x : (j ≢ place) × (get_elem? vs j ≡ some (Some u))). others j u x.0 x.1)
      (at_set vs place j (Some w) (Some u) e)

  pub each_push : (P : ℕ → Standing F E → Type 0) (vs : List (Option (Standing F E))) (w : Standing F E) → P (length vs) w → ((j : ℕ) (u : Standing F E) → get_elem? vs j ≡ some (Some u) → P j u)
      → (j : ℕ) (u : Standing F E) → get_elem? (vs ++ Some w ∷ []) j ≡ some (Some u) → P j u
  each_push P vs w mine others j u e = ⊎_elim
      (λ (h : get_elem? vs j ≡ some (Some u)). others j u h)
      (λ (h : (j ≡ length vs) × (Some w ≡ Some u)). subst (λ (z : ℕ × Standing F E). P z.0 z.1) (λ i. (sym h.0 i, Some-injective w u h.1 i)) mine)
      (at_pushed vs (Some w) (Some u) j e)

  -- a pass that was joined had been before another's view changed
  pub spent_before : (vs : List (Option (Standing F E))) (place p : ℕ) (w : Standing F E) → get_elem? (set vs place (Some w)) p ≡ some None → get_elem? vs p ≡ some None
  spent_before vs place p w e = ⊎_elim (λ (x : (p ≡ place) × (Some w ≡ None)). absurd (Some-ne-None w x.1)) (λ (x : (p ≢ place) × (get_elem? vs p ≡ some None)). x.1) (at_set vs place p (Some w) None e)

  -- a pass that was not joined is another than one that is joined now
  pub live_before : (vs : List (Option (Standing F E))) (o j : ℕ) (u : Standing F E) → get_elem? (set vs o None) j ≡ some (Some u) → (j ≢ o) × (get_elem? vs j ≡ some (Some u))
  live_before vs o j u e = ⊎_elim (λ (h : (j ≡ o) × (None ≡ Some u)). absurd (Some-ne-None u (sym h.1))) (λ h. h) (at_set vs o j None (Some u) e)

  -- a pass is not both joined and not
  pub apart_from_spent : (vs : List (Option (Standing F E))) (i j : ℕ) (s : Standing F E) → get_elem? vs i ≡ some None → get_elem? vs j ≡ some (Some s) → i ≢ j
  apart_from_spent vs i j s none there is = Some-ne-None s (some-injective (Some s) None (sym there ∙ subst (λ (n : ℕ). get_elem? vs n ≡ some None) is none))

  -- two passes of one place are one
  pub same_place : (vs : List (Option (Standing F E))) (i j : ℕ) (s t : Standing F E) → i ≡ j → get_elem? vs i ≡ some (Some s) → get_elem? vs j ≡ some (Some t) → s ≡ t
  same_place vs i j s t is here there = Some-injective s t (some-injective (Some s) (Some t) (sym here ∙ subst (λ (n : ℕ). get_elem? vs n ≡ some (Some t)) (sym is) there))
