-- Bindings that lead from younger variables to older ones, and bind none twice, are a solved form of what they tell.
use Rattle.std.proofs.Common.{◌≡◌, ℕ, zero, suc, ◌+◌, ◌<◌, ◌≤◌, List, [], ◌∷◌, length, Option, Some, None, Bool, true, false, cond, refl, sym, ap, subst, ◌∙◌, arith, append-nil}
use Rattle.std.specs.Prelude.{option_map, find}
use Rattle.std.specs.Ordering.{ordering_reverse}
use Rattle.std.specs.declared.cmp.Ordering.{Ordering}
use Rattle.std.specs.declared.cmp.Ordering.TheVariants.{Less, Equal, Greater}
use Rattle.akl_terms.specs.declared.name.Var.{Var}
use Rattle.akl_terms.specs.declared.term.Node.{Node}
use Rattle.akl_terms.specs.declared.term.Term.{Term}
use Rattle.akl_terms.specs.Names.{same_var, var_cmp}
use Rattle.akl_terms.specs.Tree.{Tree, variable, integer, port, symbol}
use Rattle.akl_terms.specs.Equal.{IsTold, told}
use Rattle.akl_terms.specs.Solved.{Bindings, EndsWithin, steps, steps_on}
use Rattle.akl_terms.specs.Template.{tree}
use Rattle.akl_terms.proofs.SameNames.{same_var-equal}
use Rattle.constraint_laws.proofs.VariableOrder.{var_total}
use Rattle.rational_unify.specs.Known.{found_in, bound_in, IsSolved, end_of}
use Rattle.rational_unify.specs.Solving.{bindings_in}
use Rattle.rational_unify.specs.Older.{LeadOlder}
use Rattle.rational_unify.specs.Forms.{IsFormOf}
use Rattle.rational_unify.proofs.Chains.{BindNew-bound}
use Rattle.rational_unify.proofs.Same.{Bound-same}
use Rattle.rational_unify.proofs.Walks.{IsFree, EndsWithin-leads}
use Rattle.local_store.specs.Stored.{Stored}
use Rattle.local_store.specs.Chained.{bindings_from, BindOnce, IsSolvedChain}
use Rattle.local_store.proofs.Once.{new-once}
use Rattle.local_store.proofs.Parts.{bound-told}

-- how many bindings are of a variable or of an older one

abbrev not_after : Ordering → ℕ
not_after Less = 1
not_after Equal = 1
not_after Greater = 0

abbrev rank : Var → List (Var × Term) → ℕ
rank x [] = 0
rank x (b ∷ bs) = not_after (var_cmp b.0 x) + rank x bs

rank-few : (x : Var) (bs : List (Var × Term)) → rank x bs ≤ length bs
rank-few x [] = omega arith
rank-few x (b ∷ bs) = let h : rank x bs ≤ length bs = rank-few x bs in let l : not_after (var_cmp b.0 x) ≤ 1 = on (var_cmp b.0 x) in omega arith
  where
    on : (o : Ordering) → not_after o ≤ 1
    on Less = omega arith
    on Equal = omega arith
    on Greater = omega arith

-- as many at least are of a younger one or of those before it
not_after-grows : (v x y : Var) → var_cmp y x ≡ Less → not_after (var_cmp v y) ≤ not_after (var_cmp v x)
not_after-grows v x y l = on (var_cmp v y) refl
  where
    on : (o : Ordering) → var_cmp v y ≡ o → not_after o ≤ not_after (var_cmp v x)
    on Less e = let h : not_after (var_cmp v x) ≡ 1 = ap not_after (var_total.trans v y x e l) in omega arith
    on Equal e = let h : not_after (var_cmp v x) ≡ 1 = ap not_after (var_total.congr v y x e ∙ l) in omega arith
    on Greater e = omega arith

rank-grows : (bs : List (Var × Term)) (x y : Var) → var_cmp y x ≡ Less → rank y bs ≤ rank x bs
rank-grows [] x y l = omega arith
rank-grows (b ∷ bs) x y l =
    let h : rank y bs ≤ rank x bs = rank-grows bs x y l in
    let k : not_after (var_cmp b.0 y) ≤ not_after (var_cmp b.0 x) = not_after-grows b.0 x y l in
    omega arith

itself : (x : Var) → not_after (var_cmp x x) ≡ 1
itself x = on (var_cmp x x) (var_total.antisymm x x)
  where
    on : (o : Ordering) → o ≡ ordering_reverse o → not_after o ≡ 1
    on Less e = refl
    on Equal e = refl
    on Greater e = cc

-- and more where it is bound
rank-bound : (bs : List (Var × Term)) (x : Var) (t : Term) → found_in bs x ≡ Some t → 1 ≤ rank x bs
rank-bound [] x t e = cc
rank-bound (b ∷ bs) x t e = on (same_var b.0 x) refl e (rank-bound bs x t)
  where
    on : (k : Bool) → same_var b.0 x ≡ k → option_map (λ (p : Var × Term). p.1) (cond k (Some b) (find (λ p. same_var p.0 x) bs)) ≡ Some t → (found_in bs x ≡ Some t → 1 ≤ rank x bs) → 1 ≤ rank x (b ∷ bs)
    on true q p f = let h : not_after (var_cmp b.0 x) ≡ 1 = ap (λ (v : Var). not_after (var_cmp v x)) (same_var-equal b.0 x q) ∙ itself x in omega arith
    on false q p f = let h : 1 ≤ rank x bs = f p in omega arith

rank-falls : (bs : List (Var × Term)) (x y : Var) (t : Term) → found_in bs x ≡ Some t → var_cmp y x ≡ Less → rank y bs < rank x bs
rank-falls [] x y t e l = cc
rank-falls (b ∷ bs) x y t e l = on (same_var b.0 x) refl e (λ p. rank-falls bs x y t p l)
  where
    on : (k : Bool) → same_var b.0 x ≡ k → option_map (λ (p : Var × Term). p.1) (cond k (Some b) (find (λ p. same_var p.0 x) bs)) ≡ Some t → (found_in bs x ≡ Some t → rank y bs < rank x bs)
        → rank y (b ∷ bs) < rank x (b ∷ bs)
    on true q p f =
        let s : b.0 ≡ x = same_var-equal b.0 x q in
        let h : not_after (var_cmp b.0 x) ≡ 1 = ap (λ (v : Var). not_after (var_cmp v x)) s ∙ itself x in
        let k : not_after (var_cmp b.0 y) ≡ 0 = ap (λ (v : Var). not_after (var_cmp v y)) s ∙ ap not_after (var_total.antisymm x y ∙ ap ordering_reverse l) in
        let m : rank y bs ≤ rank x bs = rank-grows bs x y l in
        omega arith
    on false q p f =
        let h : rank y bs < rank x bs = f p in
        let k : not_after (var_cmp b.0 y) ≤ not_after (var_cmp b.0 x) = not_after-grows b.0 x y l in
        omega arith

module _ (nodes : List Node) (bs : List (Var × Term)) (h : LeadOlder nodes bs) where
  abbrev look : Bindings
  look = bound_in nodes bs

  free-steps : (n : ℕ) (t : Tree) → IsFree look t → steps n look t ≡ 0
  free-steps zero t e = refl
  free-steps (suc n) (variable x) e = ap (steps_on (steps n look)) e
  free-steps (suc n) (integer z) e = refl
  free-steps (suc n) (port p) e = refl
  free-steps (suc n) (symbol s ts) e = refl

  -- a chain takes no more bindings than there are of its variable and of older ones
  chain-few : (n : ℕ) (x : Var) → steps n look (variable x) ≤ rank x bs
  chain-few zero x = omega arith
  chain-few (suc n) x = on (found_in bs x) refl (λ y. chain-few n y)
    where
      behind : (t : Term) → found_in bs x ≡ Some t → (u : Tree) → tree nodes t ≡ u → ((y : Var) → steps n look (variable y) ≤ rank y bs) → suc (steps n look u) ≤ rank x bs
      behind t e (variable y) p f = let l : rank y bs < rank x bs = rank-falls bs x y t e (h.each x y t e p) in let k : steps n look (variable y) ≤ rank y bs = f y in omega arith
      behind t e (integer z) p f = let l : 1 ≤ rank x bs = rank-bound bs x t e in let k : steps n look (integer z) ≡ 0 = free-steps n (integer z) tt in omega arith
      behind t e (port z) p f = let l : 1 ≤ rank x bs = rank-bound bs x t e in let k : steps n look (port z) ≡ 0 = free-steps n (port z) tt in omega arith
      behind t e (symbol s ts) p f = let l : 1 ≤ rank x bs = rank-bound bs x t e in let k : steps n look (symbol s ts) ≡ 0 = free-steps n (symbol s ts) tt in omega arith

      on : (o : Option Term) → found_in bs x ≡ o → ((y : Var) → steps n look (variable y) ≤ rank y bs) → steps_on (steps n look) (option_map (tree nodes) o) ≤ rank x bs
      on None e f = omega arith
      on (Some t) e f = behind t e (tree nodes t) refl f

  pub older-solved : IsSolved nodes bs
  older-solved = record { ends = ends }
    where
      ends : EndsWithin (length bs) (bound_in nodes bs)
      ends (variable x) = let l : steps (suc (length bs)) look (variable x) ≤ rank x bs = chain-few (suc (length bs)) x in let k : rank x bs ≤ length bs = rank-few x bs in omega arith
      ends (integer z) = omega arith
      ends (port p) = omega arith
      ends (symbol f ts) = omega arith

  pub older-form : BindOnce bs → IsFormOf nodes bs (IsTold (bindings_in nodes bs))
  older-form once = record {
    solved = older-solved;
    follow = λ s t m. told (bound-told nodes bs s t m);
    hold = λ s t m n. Bound-same look (end_of nodes bs) (EndsWithin-leads look (length bs) older-solved.ends) n s t
        (BindNew-bound nodes [] bs s t (new-once [] bs (subst BindOnce (sym (append-nil bs)) once)) m);
  }

-- so stores whose bindings do are solved together
pub older-chain : (nodes : List Node) (ss : List Stored) → LeadOlder nodes (bindings_from ss) → BindOnce (bindings_from ss) → IsSolvedChain nodes ss
older-chain nodes ss older once = record { form = older-form nodes (bindings_from ss) older once; older = older; once = once }
