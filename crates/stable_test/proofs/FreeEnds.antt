-- What the end of a term's chain says of it, over a solved form of all that the stores of a chain tell.
use Rattle.std.proofs.Common.{◌≡◌, ℕ, ◌-◌, List, [], ◌++◌, length, take, drop, Some, None, sym, ◌∙◌, ap, subst}
use Rattle.akl_terms.specs.declared.name.Var.{Var}
use Rattle.akl_terms.specs.declared.term.Node.{Node}
use Rattle.akl_terms.specs.declared.term.Term.{Term}
use Rattle.akl_terms.specs.declared.term.Seen.{Seen}
use Rattle.akl_terms.specs.declared.term.Seen.TheVariants.{Free}
use Rattle.akl_terms.specs.Tree.{Tree, variable, Head, head_of}
use Rattle.akl_terms.specs.Equal.{Equations, IsTold, Equal, turned, joined}
use Rattle.akl_terms.specs.Template.{tree, seen_of}
use Rattle.rational_unify.specs.Known.{end_of}
use Rattle.rational_unify.specs.Solving.{bindings_in}
use Rattle.rational_unify.specs.Forms.{IsFormOf, Takes}
use Rattle.rational_unify.proofs.Stands.{HasHead, structured-end}
use Rattle.rational_unify.proofs.FormLaws.{form-holds, form-follows, form-stays}
use Rattle.rational_unify.proofs.Ends.{free-tree, headed-tree}
use Rattle.local_store.specs.Stored.{Stored}
use Rattle.local_store.specs.Chained.{bindings_from, IsSolvedChain}
use Rattle.local_store.proofs.Known.{drop-whole}
use Rattle.local_store.proofs.Layers.{chain-form}
use Rattle.stable_test.specs.Reaching.{IsFree, IsHeaded}

module _ (nodes : List Node) (bs : List (Var × Term)) (E : Equations) (f : IsFormOf nodes bs (IsTold E)) (t last : Term) (e : tree nodes last ≡ end_of nodes bs (tree nodes t)) where
  to_last : Equal E (tree nodes t) (tree nodes last)
  to_last = subst (λ (k : Tree). Equal E (tree nodes t) k) (sym e) (form-follows nodes bs (IsTold E) f (tree nodes t))

  pub end_free : (x : Var) → Free x ≡ seen_of nodes last → IsFree E (tree nodes t) x
  end_free x s = (
    equal,
    λ k. no (structured-end (IsTold E) (end_of nodes bs) (form-stays nodes bs (IsTold E) f) (form-holds nodes bs (IsTold E) f) (form-follows nodes bs (IsTold E) f) (tree nodes t) k.0 k.1 (joined equal k.2) k.3),
  )
    where
      equal : Equal E (tree nodes t) (variable x)
      equal = subst (λ (k : Tree). Equal E (tree nodes t) k) (free-tree nodes last x s) to_last

      no : HasHead (end_of nodes bs (tree nodes t)) → ⊥
      no h = let z : None ≡ Some h.0 = sym (ap head_of (sym e ∙ free-tree nodes last x s)) ∙ h.1 in cc

  pub end_headed : (s : Seen) → s ≡ seen_of nodes last → ((x : Var) → s ≡ Free x → ⊥) → IsHeaded E (tree nodes t)
  end_headed s q n =
      let h : (h : Head) × (head_of (tree nodes last) ≡ Some h) = headed-tree nodes last s q n in
      record { none = λ x w. w.1 (tree nodes last, h.0, joined (turned w.0) to_last, h.1) }

-- the form of a chain, of which the outermost stores are known to be solved and the others are taken in
pub form_taken : (nodes : List Node) (ss : List Stored) (k : ℕ) (new : List (Var × Term)) → IsSolvedChain nodes (take k ss)
    → Takes nodes (bindings_from (take k ss)) [] new (bindings_from (take (length ss - k) (drop k ss)))
    → IsFormOf nodes (bindings_from (take k ss) ++ new) (IsTold (bindings_in nodes (bindings_from ss)))
form_taken nodes ss k new f t = chain-form nodes ss k (bindings_from (take k ss)) new f.form
    (subst (λ (l : List Stored). Takes nodes (bindings_from (take k ss)) [] new (bindings_from l)) (drop-whole ss k) t)
