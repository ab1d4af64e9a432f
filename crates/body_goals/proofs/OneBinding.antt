-- One binding solves an equation of two terms, where one of the ends of their chains is a variable.
use Rattle.std.proofs.Common.{◌≡◌, ◌≢◌, List, [], ◌∷◌, ◌++◌, None, Some, refl, sym, ap, subst, ◌∙◌, inl, inr, append-nil}
use Rattle.std.specs.Prelude.{option_map, cond, Bool, true, false}
use Rattle.akl_terms.specs.declared.name.Var.{Var}
use Rattle.akl_terms.specs.declared.term.Node.{Node}
use Rattle.akl_terms.specs.declared.term.Term.{Term}
use Rattle.akl_terms.specs.declared.term.Equation as code
use Rattle.akl_terms.specs.Names.{same_var}
use Rattle.akl_terms.specs.Tree.{Tree, variable, integer, port, symbol}
use Rattle.akl_terms.specs.Template.{IsArranged, tree}
use Rattle.akl_terms.proofs.SameNames.{same_var-equal, same_var-refl}
use Rattle.rational_unify.specs.Known.{found_in, end_of}
use Rattle.rational_unify.specs.Older.{IsToOlder, LeadOlder}
use Rattle.rational_unify.specs.Passing.{by_binding}
use Rattle.rational_unify.specs.Solving.{IsSolution}
use Rattle.rational_unify.proofs.Chains.{found-second}
use Rattle.rational_unify.proofs.Ends.{end-bound}
use Rattle.rational_unify.proofs.OlderEnds.{one_more-older}
use Rattle.rational_unify.proofs.Passes.{PassGoes, pass-goes}
use Rattle.rational_unify.proofs.Turns.{turn-starts, turn-ends}
use Rattle.local_store.specs.Bound.{variable_in}
use Rattle.local_store.specs.Stored.{Stored}
use Rattle.local_store.specs.Chained.{bindings_from, ToldBy, IsSolvedChain}
use Rattle.local_store.proofs.FormEnds.{end-free, end_unbound}
use Rattle.body_goals.specs.Takes.{AreUnbound}
use Rattle.body_goals.specs.Binds.{MakesOne, Binds}

-- a term that is no bound variable is its own end
unbound_end : (nodes : List Node) (bs : List (Var × Term)) (t : Tree) → ((x : Var) → t ≡ variable x → found_in bs x ≡ None) → end_of nodes bs t ≡ t
unbound_end nodes bs (variable x) h = end-free nodes bs x (h x refl)
unbound_end nodes bs (integer z) h = refl
unbound_end nodes bs (port p) h = refl
unbound_end nodes bs (symbol f ts) h = refl

-- the one binding of a list
found_one : (x : Var) (t : Term) → found_in ((x, t) ∷ []) x ≡ Some t
found_one x t = ap (λ (k : Bool). option_map (λ (b : Var × Term). b.1) (cond k (Some (x, t)) None)) (same_var-refl x)

found_other : (x y : Var) (t : Term) → y ≢ x → found_in ((x, t) ∷ []) y ≡ None
found_other x y t n = on (same_var x y) refl
  where
    on : (k : Bool) → same_var x y ≡ k → option_map (λ (b : Var × Term). b.1) (cond k (Some (x, t)) None) ≡ None
    on true e = absurd (n (sym (same_var-equal x y e)))
    on false e = refl

module _ (nodes : List Node) (ss : List Stored) (f : IsSolvedChain nodes ss) (e : code.Equation) (left right : Term) (at_left : tree nodes left ≡ end_of nodes (bindings_from ss) (tree nodes e.left))
    (at_right : tree nodes right ≡ end_of nodes (bindings_from ss) (tree nodes e.right)) (x : Var) (t : Term) where
  abbrev known : List (Var × Term)
  known = bindings_from ss

  -- what stands at the end of a chain isn't bound
  free : (s : Tree) (y : Var) → end_of nodes known s ≡ variable y → found_in known y ≡ None
  free (variable z) y q = end_unbound nodes known (ToldBy nodes ss) f.form z y q
  free (integer z) y q = cc
  free (port p) y q = cc
  free (symbol g ts) y q = cc

  unbound : MakesOne nodes left right (x, t) → found_in known x ≡ None
  unbound (inl p, n) = free (tree nodes e.left) x (sym at_left ∙ p.0)
  unbound (inr p, n) = free (tree nodes e.right) x (sym at_right ∙ p.0)

  other_unbound : MakesOne nodes left right (x, t) → (y : Var) → tree nodes t ≡ variable y → found_in known y ≡ None
  other_unbound (inl p, n) y q = free (tree nodes e.right) y (sym at_right ∙ ap (tree nodes) (sym p.1) ∙ q)
  other_unbound (inr p, n) y q = free (tree nodes e.left) y (sym at_left ∙ ap (tree nodes) (sym p.1) ∙ q)

  listed_unbound : (u : Tree) → ((y : Var) → u ≡ variable y → found_in known y ≡ None) → AreUnbound known (variable_in u)
  listed_unbound (variable y) h = (h y refl, tt)
  listed_unbound (integer z) h = tt
  listed_unbound (port p) h = tt
  listed_unbound (symbol g ts) h = tt

  -- the solver's one turn
  goes : IsArranged nodes → MakesOne nodes left right (x, t) → PassGoes nodes known (e ∷ []) ((x, t) ∷ []) []
  goes arranged m = pass-goes nodes known (e ∷ []) (record { added = []; pending = []; pairs_left = 0 }) e
      (record { compared = []; kept = turn-starts nodes known (e ∷ []) f.form.solved; fresh = tt }) (record { left = left; right = right })
      (at_left ∙ ap (λ (l : List (Var × Term)). end_of nodes l (tree nodes e.left)) (sym (append-nil known))) (at_right ∙ ap (λ (l : List (Var × Term)). end_of nodes l (tree nodes e.right)) (sym (append-nil known)))
      arranged (record { added = (x, t) ∷ []; pending = []; pairs_left = 0 }) (by_binding {x = x} {u = t} m refl refl refl)

  solution : IsArranged nodes → MakesOne nodes left right (x, t) → IsSolution nodes known (e ∷ []) ((x, t) ∷ [])
  solution arranged m = let g : PassGoes nodes known (e ∷ []) ((x, t) ∷ []) [] = goes arranged m in turn-ends nodes known (e ∷ []) ((x, t) ∷ []) g.compared g.kept g.fresh

  ends : IsArranged nodes → (m : MakesOne nodes left right (x, t)) → end_of nodes (known ++ (x, t) ∷ []) (variable x) ≡ tree nodes t
  ends arranged m = end-bound nodes (known ++ (x, t) ∷ []) x t (solution arranged m).solved (found-second known ((x, t) ∷ []) x (unbound m) ∙ found_one x t)
      ∙ unbound_end nodes (known ++ (x, t) ∷ []) (tree nodes t) (λ y q. found-second known ((x, t) ∷ []) y (other_unbound m y q) ∙ found_other x y t (λ p. m.1 (q ∙ ap variable p)))

  pub one_binds : IsArranged nodes → MakesOne nodes left right (x, t) → IsToOlder nodes (x, t) → Binds nodes ss e (x, t)
  one_binds arranged m o = record {
    solution = solution arranged m;
    older = λ h. one_more-older nodes known [] ((x, t) ∷ []) x t refl o (subst (λ (l : List (Var × Term)). LeadOlder nodes l) (sym (append-nil known)) h);
    at_end = ends arranged m;
    unbound = (unbound m, listed_unbound (tree nodes t) (other_unbound m));
  }
