-- The variables that bindings bind, listed one after another.
use Rattle.std.proofs.Common.{◌≡◌, ℕ, zero, suc, ◌+◌, ◌<◌, List, [], ◌∷◌, ◌++◌, length, drop, Some, slice_index_or, refl, sym, ap, ◌∙◌, arith, append_assoc}
use Rattle.akl_terms.specs.declared.name.Var.{Var}
use Rattle.akl_terms.specs.declared.term.Node.{Node}
use Rattle.akl_terms.specs.declared.term.Term.{Term}
use Rattle.akl_terms.specs.Tree.{Tree, variable, integer, port, symbol, Head, head_of}
use Rattle.akl_terms.specs.Template.{tree}
use Rattle.rational_unify.specs.Known.{found_in, IsSolved, end_of}
use Rattle.rational_unify.proofs.Ends.{end-bound}
use Rattle.rational_unify.proofs.Taking.{drop-next, past}
use Rattle.local_store.specs.Bound.{variable_in, bound_by, AreFound}

found-at : (whole bs : List (Var × Term)) (i : ℕ) → AreFound whole bs → i < length bs → found_in whole (slice_index_or bs i past).0 ≡ Some (slice_index_or bs i past).1
found-at whole [] i h l = absurd (omega arith)
found-at whole (b ∷ bs) zero h l = h.0
found-at whole (b ∷ bs) (suc i) h l = found-at whole bs i h.1 (omega arith)

headed-none : (t : Tree) (h : Head) → head_of t ≡ Some h → variable_in t ≡ []
headed-none (variable x) h e = cc
headed-none (integer z) h e = refl
headed-none (port p) h e = refl
headed-none (symbol f ts) h e = refl

-- one more binding, whose chain ends where its term's does
module _ (nodes : List Node) (whole bs : List (Var × Term)) (i : ℕ) (solved : IsSolved nodes whole) (found : AreFound whole bs) (more : i < length bs) where
  abbrev next : Var × Term
  next = slice_index_or bs i past

  abbrev rest : List Var
  rest = bound_by nodes whole (drop (i + 1) bs)

  one_more : bound_by nodes whole (drop i bs) ≡ next.0 ∷ variable_in (end_of nodes whole (tree nodes next.1)) ++ rest
  one_more = ap (bound_by nodes whole) (drop-next bs i (i + 1) past more (omega arith))
      ∙ ap (λ (t : Tree). next.0 ∷ variable_in t ++ rest) (end-bound nodes whole next.0 next.1 solved (found-at whole bs i found more))

  pub lists-free : (old new all : List Var) (y : Var) → old ++ bound_by nodes whole (drop i bs) ≡ all → end_of nodes whole (tree nodes next.1) ≡ variable y → new ≡ (old ++ next.0 ∷ []) ++ y ∷ [] → new ++ rest ≡ all
  lists-free old new all y e f n = ap (λ (l : List Var). l ++ rest) n ∙ append_assoc (old ++ next.0 ∷ []) (y ∷ []) rest ∙ append_assoc old (next.0 ∷ []) (y ∷ rest)
      ∙ sym (ap (λ (l : List Var). old ++ l) (one_more ∙ ap (λ (t : Tree). next.0 ∷ variable_in t ++ rest) f)) ∙ e

  pub lists-headed : (old new all : List Var) (h : Head) → old ++ bound_by nodes whole (drop i bs) ≡ all → head_of (end_of nodes whole (tree nodes next.1)) ≡ Some h → new ≡ old ++ next.0 ∷ [] → new ++ rest ≡ all
  lists-headed old new all h e f n = ap (λ (l : List Var). l ++ rest) n ∙ append_assoc old (next.0 ∷ []) rest
      ∙ sym (ap (λ (l : List Var). old ++ l) (one_more ∙ ap (λ (l : List Var). next.0 ∷ l ++ rest) (headed-none (end_of nodes whole (tree nodes next.1)) h f))) ∙ e
