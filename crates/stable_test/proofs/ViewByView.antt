-- Facts of all views, one view after another.
use Rattle.std.proofs.Common.{◌≡◌, ℕ, zero, suc, ◌+◌, ◌<◌, List, [], ◌∷◌, ◌++◌, length, take, slice_index_or, sym, ◌∙◌, ap, subst, arith}
use Rattle.std.specs.List.{AllByRecursion}
use Rattle.akl_terms.specs.declared.name.Var.{Var}
use Rattle.akl_terms.specs.declared.program.Program.{Program}
use Rattle.rational_unify.proofs.Taking.{take-next}
use Rattle.local_store.specs.Stored.{Stored}
use Rattle.box_tree.specs.Views.{ViewValue}
use Rattle.stable_test.specs.Inner.{IsInnerView, ListsTouched, ListedBy}
use Rattle.stable_test.proofs.InsideTouched.{listed_push}

module _ (P : ViewValue → Type 0) where
  all_end : (vs : List ViewValue) (v : ViewValue) → AllByRecursion P vs → P v → AllByRecursion P (vs ++ v ∷ [])
  all_end [] v a p = (p, tt)
  all_end (w ∷ vs) v a p = (a.0, all_end vs v a.1 p)

  all_index : (vs : List ViewValue) (k : ℕ) (d : ViewValue) → k < length vs → AllByRecursion P vs → P (slice_index_or vs k d)
  all_index [] k d l a = absurd (omega arith)
  all_index (v ∷ vs) zero d l a = a.0
  all_index (v ∷ vs) (suc k) d l a = all_index vs k d (omega arith) a.1

  module _ (vs : List ViewValue) (k : ℕ) (v : ViewValue) (l : k < length vs) (e : v ≡ slice_index_or vs k v) where
    pub one_of_all : AllByRecursion P vs → P v
    one_of_all a = subst P (sym e) (all_index vs k v l a)

    pub all_next : AllByRecursion P (take k vs) → P v → AllByRecursion P (take (k + 1) vs)
    all_next a p = subst (AllByRecursion P) (sym (take-next vs k (k + 1) v l (omega arith) ∙ ap (λ (w : ViewValue). take k vs ++ w ∷ []) (sym e))) (all_end (take k vs) v a p)

pub listed_next : (p : Program) (depth : ℕ) (frames : Stored) (vs : List ViewValue) (k : ℕ) (v : ViewValue) → k < length vs → v ≡ slice_index_or vs k v → (list more : List Var)
    → ListedBy p depth frames (take k vs) list → ((s : IsInnerView p depth frames v) → ListsTouched p depth frames v s more) → ListedBy p depth frames (take (k + 1) vs) (list ++ more)
listed_next p depth frames vs k v l e list more h f = subst (λ (ws : List ViewValue). ListedBy p depth frames ws (list ++ more))
    (sym (take-next vs k (k + 1) v l (omega arith) ∙ ap (λ (w : ViewValue). take k vs ++ w ∷ []) (sym e))) (listed_push p depth frames (take k vs) list v more h f)
