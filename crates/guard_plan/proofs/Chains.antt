-- How long a chain of stores is, what is taken of it, and the same chain with other frames or ports.
use Rattle.std.proofs.Common.{◌≡◌, ℕ, ◌-◌, ◌+◌, List, [], ◌∷◌, ◌++◌, length, take, drop, refl, sym, ◌∙◌, ap, subst, arith}
use Rattle.akl_terms.specs.declared.term.Node.{Node}
use Rattle.akl_terms.specs.declared.name.Var.{Var}
use Rattle.akl_terms.specs.declared.term.Term.{Term}
use Rattle.akl_terms.specs.Equal.{IsTold}
use Rattle.rational_unify.specs.Solving.{bindings_in}
use Rattle.local_store.specs.Stored.{Stored}
use Rattle.rational_unify.specs.Forms.{IsFormOf}
use Rattle.rational_unify.specs.Older.{LeadOlder}
use Rattle.local_store.specs.Chained.{bindings_from, BindOnce, IsSolvedChain}
use Rattle.local_store.proofs.Layers.{from-last}

pub long_push : (ss : List Stored) (s : Stored) → length (ss ++ s ∷ []) ≡ length ss + 1
long_push [] s = omega arith
long_push (r ∷ ss) s = let h : length (ss ++ s ∷ []) ≡ length ss + 1 = long_push ss s in omega arith

pub front_taken : (ss : List Stored) (s : Stored) → take (length ss) (ss ++ s ∷ []) ≡ ss
front_taken [] s = refl
front_taken (r ∷ ss) s = ap (λ (l : List Stored). r ∷ l) (front_taken ss s)

pub last_dropped : (ss : List Stored) (s : Stored) → drop (length ss) (ss ++ s ∷ []) ≡ s ∷ []
last_dropped [] s = refl
last_dropped (r ∷ ss) s = last_dropped ss s

less_one : (ss : List Stored) (s : Stored) → length (ss ++ s ∷ []) - 1 ≡ length ss
less_one ss s = let h : length (ss ++ s ∷ []) ≡ length ss + 1 = long_push ss s in omega arith

pub take_push : (ss : List Stored) (s : Stored) → take (length (ss ++ s ∷ []) - 1) (ss ++ s ∷ []) ≡ ss
take_push ss s = ap (λ (k : ℕ). take k (ss ++ s ∷ [])) (less_one ss s) ∙ front_taken ss s

pub drop_push : (ss : List Stored) (s : Stored) → drop (length (ss ++ s ∷ []) - 1) (ss ++ s ∷ []) ≡ s ∷ []
drop_push ss s = ap (λ (k : ℕ). drop k (ss ++ s ∷ [])) (less_one ss s) ∙ last_dropped ss s

-- with the same bindings a store is solved as well
pub same_solved : (nodes : List Node) (ss : List Stored) (s k : Stored) → k.bindings ≡ s.bindings → IsSolvedChain nodes (ss ++ s ∷ []) → IsSolvedChain nodes (ss ++ k ∷ [])
same_solved nodes ss s k e h = record {
  form = subst (λ (l : List (Var × Term)). IsFormOf nodes l (IsTold (bindings_in nodes l))) same h.form;
  older = subst (LeadOlder nodes) same h.older;
  once = subst BindOnce same h.once;
}
  where
    same : bindings_from (ss ++ s ∷ []) ≡ bindings_from (ss ++ k ∷ [])
    same = from-last ss s ∙ ap (λ (l : List (Var × Term)). l ++ bindings_from ss) (sym e) ∙ sym (from-last ss k)
