-- What tests of alternatives find, one after another.
use Rattle.std.proofs.Common.{◌≡◌, ◌≢◌, ℕ, ◌+◌, ◌<◌, List, [], ◌∷◌, ◌++◌, length, take, true, false, refl, sym, ◌∙◌, subst, inl, inr, slice_index_or, arith}
use Rattle.std.proofs.lemmas.Bool.{false≢true}
use Rattle.akl_terms.specs.declared.term.Node.{Node}
use Rattle.akl_terms.specs.declared.term.Term.{Term}
use Rattle.local_store.specs.Stored.{Stored}
use Rattle.entail_test.specs.declared.noise.Quietness.{Quietness}
use Rattle.box_tree.specs.declared.entries.HeldOp.{HeldOp}
use Rattle.box_tree.specs.declared.view.Alternative.{Alternative}
use Rattle.box_tree.specs.declared.view.Sight.{Sight}
use Rattle.box_tree.specs.Views.{ViewValue}
use Rattle.guard_plan.specs.declared.guards.Noise.{Noise}
use Rattle.guard_plan.specs.Guards.{IsGuarded, IsQuietInside, IsNoisyOver, AreAllSolved, cutting}
use Rattle.guard_plan.specs.Noisy.{AnswersInside, IsConsistentInside, IsNoiseInside, AddsNoise, AddsGuardNoise, HasNoise, AreNoisy, tested, IsNoiseAt}
use Rattle.guard_plan.proofs.Tested.{all_next}
use Rattle.guard_plan.proofs.OneOf.{one_push, one_last, one_pushed, still_one, also_one, one_or_last}

-- by what a test answers
module _ (nodes : List Node) (ss : List Stored) (old : List Noise) where
  pub quiet_adds : AnswersInside nodes ss Quietness.Quiet → AddsNoise nodes ss old old
  quiet_adds q = inr (λ c. q, refl)

  pub noisy_adds : (n : Noise) → AnswersInside nodes ss (Quietness.Noisy n.on) → AddsNoise nodes ss old (old ++ n ∷ [])
  noisy_adds n a = inl (n, (a.0, a.2), refl)

  pub clash_adds : (left right : Term) → AnswersInside nodes ss (Quietness.Inconsistent left right) → AddsNoise nodes ss old old
  clash_adds left right a = inr (λ c. absurd (a.1.differ (c.heads a.0 a.1.is_left a.1.is_right)), refl)

-- of a guard that asks for consistency alone nothing is said
pub unasked : (o : HeldOp) → o ≡ HeldOp.Choice → (nodes : List Node) (ss : List Stored) (old new : List Noise) → AddsGuardNoise o nodes ss old new
unasked o e nodes ss old new = subst (λ (p : HeldOp). AddsGuardNoise p nodes ss old new) (sym e) tt

module _ (nodes : List Node) (path : List Stored) where
  pub none_heard : HasNoise nodes path [] []
  none_heard = record { each = λ n m. absurd m; every = λ a m s c. absurd m }

  module _ (seen : List Alternative) (k : ℕ) (d : Alternative) (l : k < length seen) (old : List Noise) (h : HasNoise nodes path (take k seen) old) where
    -- one more that isn't solved
    pub unsolved_next : ((slice_index_or seen k d).solved ≡ true → ⊥) → HasNoise nodes path (take (k + 1) seen) old
    unsolved_next n = record {
      each = λ x m. let w : _ = h.each x m in (w.0, still_one Alternative seen k d l w.0 w.1, w.2, w.3);
      every = λ a m s c. elim (one_or_last Alternative seen k d l a m) [
        | inl i ↦ h.every a i s c
        | inr e ↦ absurd (n (subst (λ (b : Alternative). b.solved ≡ true) e s))
      ];
    }

    -- one more that is
    pub tested_next : (slice_index_or seen k d).solved ≡ true → (new : List Noise) → AddsNoise nodes (path ++ (slice_index_or seen k d).store ∷ []) old new → HasNoise nodes path (take (k + 1) seen) new
    tested_next solved new (inl (n, is, e)) = subst (HasNoise nodes path (take (k + 1) seen)) (sym e) (record {
      each = λ x m. elim (one_pushed Noise x n old m) [
        | inl i ↦ let w : _ = h.each x i in (w.0, still_one Alternative seen k d l w.0 w.1, w.2, w.3)
        | inr q ↦ (slice_index_or seen k d, also_one Alternative seen k d l, solved, subst (IsNoiseInside nodes (path ++ (slice_index_or seen k d).store ∷ [])) (sym q) is)
      ];
      every = λ a m s c. elim (one_or_last Alternative seen k d l a m) [
        | inl i ↦ elim (h.every a i s c) [ inl q ↦ inl q | inr w ↦ inr (w.0, one_push Noise w.0 n old w.1, w.2) ]
        | inr q ↦ inr (n, one_last Noise n old, subst (λ (b : Alternative). IsNoiseInside nodes (path ++ b.store ∷ []) n) (sym q) is)
      ];
    })
    tested_next solved new (inr (quiet, e)) = subst (HasNoise nodes path (take (k + 1) seen)) (sym e) (record {
      each = λ x m. let w : _ = h.each x m in (w.0, still_one Alternative seen k d l w.0 w.1, w.2, w.3);
      every = λ a m s c. elim (one_or_last Alternative seen k d l a m) [
        | inl i ↦ h.every a i s c
        | inr q ↦ inl (subst (λ (b : Alternative). IsQuietInside nodes (path ++ b.store ∷ [])) (sym q) (quiet (subst (λ (b : Alternative). IsConsistentInside nodes (path ++ b.store ∷ [])) q c)))
      ];
    })

  -- and one more that isn't quiet
  pub noisy_next : (seen : List Alternative) (k : ℕ) (d : Alternative) → k < length seen → (old : List Noise) → AreNoisy nodes path (take k seen) old → (slice_index_or seen k d).solved ≡ true
      → (IsQuietInside nodes (path ++ (slice_index_or seen k d).store ∷ []) → ⊥) → (new : List Noise) → AddsNoise nodes (path ++ (slice_index_or seen k d).store ∷ []) old new → AreNoisy nodes path (take (k + 1) seen) new
  noisy_next seen k d l old h s n new x = (all_next nodes path (IsNoisyOver nodes path) seen k d l h.0 (λ _. n), tested_next seen k d l old h.1 s new x)

  pub unsolved_noisy : (seen : List Alternative) (k : ℕ) (d : Alternative) → k < length seen → (old : List Noise) → AreNoisy nodes path (take k seen) old → (slice_index_or seen k d).solved ≡ false → AreNoisy nodes path (take (k + 1) seen) old
  unsolved_noisy seen k d l old h n =
      (all_next nodes path (IsNoisyOver nodes path) seen k d l h.0 (λ s. absurd (false≢true (sym n ∙ s))), unsolved_next seen k d l old h.1 (λ s. false≢true (sym n ∙ s)))

  -- one that stands alone

  pub alone_unsolved : (a : Alternative) → a.solved ≡ false → HasNoise nodes path (a ∷ []) []
  alone_unsolved a n = unsolved_next (a ∷ []) 0 a (omega arith) [] none_heard (λ s. false≢true (sym n ∙ s))

  pub alone_tested : (a : Alternative) → a.solved ≡ true → (new : List Noise) → AddsNoise nodes (path ++ a.store ∷ []) [] new → HasNoise nodes path (a ∷ []) new
  alone_tested a s = tested_next (a ∷ []) 0 a (omega arith) [] none_heard s

tested_cutting : (o : HeldOp) (seen : List Alternative) → length seen ≢ 1 → tested o seen ≡ cutting o seen
tested_cutting o [] n = refl
tested_cutting o (a ∷ []) n = absurd (n refl)
tested_cutting o (a ∷ b ∷ rest) n = refl

-- at the place of a view
module _ (v : ViewValue) (o : HeldOp) (guarded : IsGuarded o) (sees : v.sight ≡ Sight.Choice o) (noise : List Noise) where
  pub noise_of_cut : length v.alternatives ≢ 1 → HasNoise v.table.program.templates.nodes v.stores (cutting o v.alternatives) noise → IsNoiseAt v v.sight noise
  noise_of_cut many h = subst (λ (s : Sight). IsNoiseAt v s noise) (sym sees) (by o guarded (subst (λ (l : List Alternative). HasNoise v.table.program.templates.nodes v.stores l noise) (sym (tested_cutting o v.alternatives many)) h))
    where
      by : (p : HeldOp) → IsGuarded p → HasNoise v.table.program.templates.nodes v.stores (tested p v.alternatives) noise → IsNoiseAt v (Sight.Choice p) noise
      by HeldOp.Condition q x = x
      by HeldOp.Commit q x = x
      by HeldOp.Choice q x = tt
      by (HeldOp.Collect t) q x = absurd q

  module _ (a : Alternative) (only : v.alternatives ≡ a ∷ []) where
    by_only : (p : HeldOp) → IsGuarded p → HasNoise v.table.program.templates.nodes v.stores (a ∷ []) noise → IsNoiseAt v (Sight.Choice p) noise
    by_only HeldOp.Condition q x = subst (λ (l : List Alternative). HasNoise v.table.program.templates.nodes v.stores (tested HeldOp.Condition l) noise) (sym only) x
    by_only HeldOp.Commit q x = subst (λ (l : List Alternative). HasNoise v.table.program.templates.nodes v.stores (tested HeldOp.Commit l) noise) (sym only) x
    by_only HeldOp.Choice q x = tt
    by_only (HeldOp.Collect t) q x = absurd q

    pub noise_unsolved : a.solved ≡ false → noise ≡ [] → IsNoiseAt v v.sight noise
    noise_unsolved n e = subst (λ (s : Sight). IsNoiseAt v s noise) (sym sees)
        (by_only o guarded (subst (HasNoise v.table.program.templates.nodes v.stores (a ∷ [])) (sym e) (alone_unsolved v.table.program.templates.nodes v.stores a n)))

    pub noise_of_promote : a.solved ≡ true → (old : List Noise) → old ≡ [] → AddsGuardNoise o v.table.program.templates.nodes (v.stores ++ a.store ∷ []) old noise → IsNoiseAt v v.sight noise
    noise_of_promote s old e g = subst (λ (t : Sight). IsNoiseAt v t noise) (sym sees) (by o guarded (subst (λ (l : List Noise). AddsGuardNoise o v.table.program.templates.nodes (v.stores ++ a.store ∷ []) l noise) e g))
      where
        by : (p : HeldOp) → IsGuarded p → AddsGuardNoise p v.table.program.templates.nodes (v.stores ++ a.store ∷ []) [] noise → IsNoiseAt v (Sight.Choice p) noise
        by HeldOp.Condition q x = by_only HeldOp.Condition q (alone_tested v.table.program.templates.nodes v.stores a s noise x)
        by HeldOp.Commit q x = by_only HeldOp.Commit q (alone_tested v.table.program.templates.nodes v.stores a s noise x)
        by HeldOp.Choice q x = tt
        by (HeldOp.Collect t) q x = absurd q

-- of a choice that collects
module _ (v : ViewValue) (t : Term) (sees : v.sight ≡ Sight.Choice (HeldOp.Collect t)) (noise : List Noise) where
  pub noise_of_collect : (AreAllSolved v.alternatives → HasNoise v.table.program.templates.nodes v.stores v.alternatives noise) → IsNoiseAt v v.sight noise
  noise_of_collect h = subst (λ (s : Sight). IsNoiseAt v s noise) (sym sees) h
