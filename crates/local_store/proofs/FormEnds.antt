-- What the ends of chains in a solved form tell of variables.
use Rattle.std.proofs.Common.{◌≡◌, ◌≢◌, List, length, Some, None, refl, sym, ap, subst, ◌∙◌, ◌⊎◌, inl, inr}
use Rattle.std.specs.Prelude.{option_map}
use Rattle.akl_terms.specs.declared.name.Var.{Var}
use Rattle.akl_terms.specs.declared.term.Node.{Node}
use Rattle.akl_terms.specs.declared.term.Term.{Term}
use Rattle.akl_terms.specs.Tree.{Tree, variable, integer, port, symbol, integer_head, port_head, symbol_head, head_of, list_of}
use Rattle.akl_terms.specs.Equal.{Equations, IsTold, Equal, same, IsStructured}
use Rattle.akl_terms.specs.Template.{tree}
use Rattle.akl_terms.specs.Solved.{walk, follow}
use Rattle.constraint_laws.specs.Oldest.{IsOldest}
use Rattle.rational_unify.specs.Older.{LeadOlder}
use Rattle.rational_unify.proofs.OlderEnds.{end-older}
use Rattle.rational_unify.specs.Known.{found_in, bound_in, end_of}
use Rattle.rational_unify.specs.Forms.{IsFormOf}
use Rattle.rational_unify.proofs.Chains.{free_found}
use Rattle.rational_unify.proofs.Stands.{HasHead, structured-end, unstructured-end, equal-end}
use Rattle.rational_unify.proofs.FormLaws.{form-holds, form-follows, form-stays}
use Rattle.rational_unify.proofs.Walks.{IsFree, walk-free}

pub end-free : (nodes : List Node) (bs : List (Var × Term)) (x : Var) → found_in bs x ≡ None → end_of nodes bs (variable x) ≡ variable x
end-free nodes bs x e = ap (follow (walk (length bs) (bound_in nodes bs)) (variable x)) (ap (option_map (tree nodes)) e)

pub unheaded : (t : Tree) → head_of t ≡ None → (y : Var) × (t ≡ variable y)
unheaded (variable y) e = (y, refl)
unheaded (integer z) e = cc
unheaded (port p) e = cc
unheaded (symbol f ts) e = cc

pub has_head : (t : Tree) → HasHead t ⊎ (head_of t ≡ None)
has_head (variable x) = inr refl
has_head (integer z) = inl (integer_head z, refl)
has_head (port p) = inl (port_head p, refl)
has_head (symbol f ts) = inl (symbol_head f (length (list_of ts)), refl)

pub no_head : (t : Tree) (y : Var) → t ≡ variable y → HasHead t → ⊥
no_head t y e h = let z : None ≡ Some h.0 = sym (ap head_of e) ∙ h.1 in cc

-- the end of a chain isn't bound
pub end_unbound : (nodes : List Node) (bs : List (Var × Term)) (R : Tree → Tree → Type 0) → IsFormOf nodes bs R → (x r : Var) → end_of nodes bs (variable x) ≡ variable r → found_in bs r ≡ None
end_unbound nodes bs R f x r e = free_found nodes bs r (subst (IsFree (bound_in nodes bs)) e (walk-free (bound_in nodes bs) (length bs) (variable x) (f.solved.ends (variable x))))

-- one solved form
module _ (nodes : List Node) (bs : List (Var × Term)) (E : Equations) (f : IsFormOf nodes bs (IsTold E)) where
  pub unstructured : (x r : Var) → end_of nodes bs (variable x) ≡ variable r → IsStructured E x → ⊥
  unstructured x r e s = no_head (end_of nodes bs (variable x)) r e
      (structured-end (IsTold E) (end_of nodes bs) (form-stays nodes bs (IsTold E) f) (form-holds nodes bs (IsTold E) f) (form-follows nodes bs (IsTold E) f) (variable x) s.0 s.1 s.2 s.3)

  pub structured : (x : Var) → HasHead (end_of nodes bs (variable x)) → IsStructured E x
  structured x h = (end_of nodes bs (variable x), h.0, form-follows nodes bs (IsTold E) f (variable x), h.1)

  pub structured-has : (x : Var) → IsStructured E x → HasHead (end_of nodes bs (variable x))
  structured-has x s = structured-end (IsTold E) (end_of nodes bs) (form-stays nodes bs (IsTold E) f) (form-holds nodes bs (IsTold E) f) (form-follows nodes bs (IsTold E) f) (variable x) s.0 s.1 s.2 s.3

  pub one_class : (x y : Var) → end_of nodes bs (variable x) ≡ end_of nodes bs (variable y) → Equal E (variable x) (variable y)
  one_class x y e = equal-end (IsTold E) (end_of nodes bs) (form-stays nodes bs (IsTold E) f) (form-holds nodes bs (IsTold E) f) (form-follows nodes bs (IsTold E) f) (variable x) (variable y) e

  pub one_end : (x y r : Var) → end_of nodes bs (variable x) ≡ variable r → Equal E (variable x) (variable y) → end_of nodes bs (variable x) ≡ end_of nodes bs (variable y)
  one_end x y r e q = unstructured-end (IsTold E) (end_of nodes bs) (form-stays nodes bs (IsTold E) f) (form-holds nodes bs (IsTold E) f) (form-follows nodes bs (IsTold E) f) (variable x) (variable y)
      (λ u h d p. unstructured x r e (u, h, d, p)) q

  pub equal_to_end : (x r : Var) → end_of nodes bs (variable x) ≡ variable r → Equal E (variable x) (variable r)
  equal_to_end x r e = subst (λ (t : Tree). Equal E (variable x) t) e (form-follows nodes bs (IsTold E) f (variable x))

  pub roots_apart : (x y r s : Var) → end_of nodes bs (variable x) ≡ variable r → end_of nodes bs (variable y) ≡ variable s → r ≢ s → Equal E (variable x) (variable y) → ⊥
  roots_apart x y r s e d n q =
      let p : variable r ≡ variable s = sym e ∙ one_end x y r e q ∙ d in
      n (cc)

  -- where the bindings lead to older variables, one that isn't bound is the oldest of its class
  pub unbound_oldest : LeadOlder nodes bs → (x : Var) → found_in bs x ≡ None → IsOldest E x x
  unbound_oldest o x n = record { equal = same; oldest = λ y e. end-older nodes bs o y x (sym (one_end x y x (end-free nodes bs x n) e) ∙ end-free nodes bs x n) }
