-- Lists that are made of others, one after another.
use Rattle.std.proofs.Common.{◌≡◌, List, [], ◌++◌, sym, subst, ◌⊎◌, inl, inr}
use Rattle.akl_terms.specs.declared.name.Var.{Var}
use Rattle.idle_plan.specs.Told.{AreGathered}
use Rattle.local_store.proofs.Among.{among-left, among-right, among-either}

-- what is gathered
module _ (I : Type 0) (Asked : I → Type 0) (Lists : I → List Var → Type 0) where
  pub gathered_none : (In : I → Type 0) → ((i : I) → In i → Asked i → ⊥) → AreGathered I In Asked Lists []
  gathered_none In none = record { each = λ y m. absurd m; every = λ i h a. absurd (none i h a) }

  -- of one more a list
  pub gathered_more : (In More : I → Type 0) (list own : List Var) (new : I) → AreGathered I In Asked Lists list → ((i : I) → In i → More i) → More new → ((i : I) → More i → In i ⊎ (i ≡ new)) → Lists new own
      → AreGathered I More Asked Lists (list ++ own)
  gathered_more In More list own new g stays here either lists = record {
    each = λ y m. elim (among-either list own y m) [
      | inl k ↦ let w : _ = g.each y k in (w.0, w.1, stays w.0 w.2, w.3, w.4, λ z n. among-left list own z (w.5 z n))
      | inr k ↦ (new, own, here, lists, k, among-right list own)
    ];
    every = λ i h a. elim (either i h) [
      | inl k ↦ let w : _ = g.every i k a in (w.0, w.1, λ y m. among-left list own y (w.2 y m))
      | inr e ↦ (own, subst (λ (j : I). Lists j own) (sym e) lists, among-right list own)
    ];
  }

  -- of more for which nothing is asked
  pub gathered_past : (In More : I → Type 0) (list : List Var) → AreGathered I In Asked Lists list → ((i : I) → In i → More i) → ((i : I) → More i → In i ⊎ (Asked i → ⊥)) → AreGathered I More Asked Lists list
  gathered_past In More list g stays either = record {
    each = λ y m. let w : _ = g.each y m in (w.0, w.1, stays w.0 w.2, w.3, w.4, w.5);
    every = λ i h a. elim (either i h) [ inl k ↦ g.every i k a | inr n ↦ absurd (n a) ];
  }
