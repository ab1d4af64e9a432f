-- Chains with one more store, which has a frame alone.
use Rattle.std.proofs.Common.{◌≡◌, ℕ, zero, suc, ◌+◌, ◌≤◌, List, [], ◌∷◌, ◌++◌, length, take, refl, sym, ap, subst, arith}
use Rattle.akl_terms.specs.declared.name.Name.{Name}
use Rattle.akl_terms.specs.declared.name.Var.{Var}
use Rattle.akl_terms.specs.declared.term.Node.{Node}
use Rattle.akl_terms.specs.declared.term.Term.{Term}
use Rattle.akl_terms.specs.Equal.{IsTold}
use Rattle.rational_unify.specs.Solving.{bindings_in}
use Rattle.rational_unify.specs.Forms.{IsFormOf}
use Rattle.rational_unify.specs.Older.{LeadOlder}
use Rattle.local_store.specs.Stored.{Stored}
use Rattle.local_store.specs.Chained.{BindOnce, IsSolvedChain, IsKnown}
use Rattle.local_store.proofs.Layers.{from-last}
use Rattle.guard_plan.proofs.Chains.{long_push}
use Rattle.rule_plan.specs.Made.{store_with}

pub take_front : (k : ℕ) (ss ts : List Stored) → k ≤ length ss → take k (ss ++ ts) ≡ take k ss
take_front zero ss ts h = refl
take_front (suc k) [] ts h = absurd (omega arith)
take_front (suc k) (s ∷ ss) ts h = ap (λ (l : List Stored). s ∷ l) (take_front k ss ts (omega arith))

-- a store without bindings leaves a chain as solved as it was
pub framed : (nodes : List Node) (path : List Stored) (frame : Name) → IsSolvedChain nodes path → IsSolvedChain nodes (path ++ store_with frame ∷ [])
framed nodes path frame h = record {
  form = subst (λ (l : List (Var × Term)). IsFormOf nodes l (IsTold (bindings_in nodes l))) (sym (from-last path (store_with frame))) h.form;
  older = subst (LeadOlder nodes) (sym (from-last path (store_with frame))) h.older;
  once = subst BindOnce (sym (from-last path (store_with frame))) h.once;
}

-- and as known
pub known_framed : (nodes : List Node) (path : List Stored) (frame : Name) (known : ℕ) → IsKnown nodes path known → IsKnown nodes (path ++ store_with frame ∷ []) known
known_framed nodes path frame known h = record {
  within = let l : length (path ++ store_with frame ∷ []) ≡ length path + 1 = long_push path (store_with frame) in let x : known ≤ length path = h.within in omega arith;
  each = λ k q. subst (IsSolvedChain nodes) (sym (take_front k path (store_with frame ∷ []) (let x : known ≤ length path = h.within in omega arith))) (h.each k (omega arith));
}
