-- The variables with which the nodes of a graph begin that is built without bindings.
use Rattle.std.proofs.Common.{◌≡◌, ℕ, zero, suc, ◌+◌, ◌<◌, List, [], ◌∷◌, ◌++◌, length, map, take, get_or, Option, Some, None, refl, sym, ◌∙◌, ap, subst, inl, inr}
use Rattle.std.specs.Prelude.{◌⊎◌, slice_get, option_map}
use Rattle.std.specs.List.{flat_map}
use Rattle.std.proofs.lemmas.List.{take_more}
use Rattle.std.proofs.lemmas.Option.{slice_get-map}
use Rattle.akl_terms.specs.declared.name.Var.{Var}
use Rattle.akl_terms.specs.declared.program.ShownTerm.{ShownTerm}
use Rattle.akl_terms.specs.declared.term.Node.{Node}
use Rattle.akl_terms.specs.declared.term.Seen.{Seen}
use Rattle.akl_terms.specs.declared.term.Seen.TheVariants.{Free}
use Rattle.akl_terms.specs.declared.term.Term.{Term}
use Rattle.akl_terms.specs.Tree.{Tree, Trees, variable, integer, port, symbol, none, more, list_of}
use Rattle.akl_terms.specs.Template.{Template, tree}
use Rattle.answer_text.specs.Graph.{Stands}
use Rattle.answer_text.specs.BuiltGraph.{IsBuilt}
use Rattle.constraint_laws.specs.Touched.{IsAmong}
use Rattle.local_store.proofs.Among.{among-either, among-left, among-right}
use Rattle.rational_unify.specs.Known.{end_of}
use Rattle.rational_unify.specs.Solving.{bindings_in}
use Rattle.term_graph.specs.Building.{seen_tree, IsEndAt}
use Rattle.term_graph.specs.Built.{graph_of, IsBuiltAlong}
use Rattle.term_graph.specs.Reached.{IsReached, at_start, below, AreReached}
use Rattle.tree_classes.proofs.Beginnings.{some_tops, some-tops-tell}
use Rattle.tree_models.specs.declared.starts.Start.{Start}
use Rattle.tree_models.specs.Starts.{start_tree, AreNodesOf}
use Rattle.tree_models.specs.Solutions.{Occurs, OccursAmong, OccursIn, OccursShown, shown_terms}
use Rattle.tree_models.specs.Variables.{free_in, free_variables, AreOnce, AreVariablesOf}
use Rattle.tree_models.proofs.Merged.{argument_occurs}

-- lists of variables

flat_behind : (seens : List Seen) (s : Seen) → flat_map free_in (seens ++ s ∷ []) ≡ flat_map free_in seens ++ free_in s
flat_behind [] s = Rattle.std.proofs.Common.append-nil (free_in s)
flat_behind (r ∷ seens) s = ap (λ (l : List Var). free_in r ++ l) (flat_behind seens s) ∙ sym (Rattle.std.proofs.Common.append_assoc (free_in r) (flat_map free_in seens) (free_in s))

pub free_more : (seens : List Seen) (i : ℕ) (d : Seen) (old new : List Var) → i < length seens → old ≡ free_variables (take i seens) → new ≡ old ++ free_in (get_or seens i d) → new ≡ free_variables (take (i + 1) seens)
free_more seens i d old new l o n = n ∙ ap (λ (x : List Var). x ++ free_in (get_or seens i d)) o ∙ sym (flat_behind (take i seens) (get_or seens i d)) ∙ ap (flat_map free_in) (sym (take_more seens i d l))

free_at : (s : Seen) (x : Var) → IsAmong x (free_in s) → s ≡ Free x
free_at (Free y) x (inl e) = ap (λ (z : Var). Free z) (sym e)
free_at (Free y) x (inr m) = absurd m
free_at (Seen.Int z) x m = absurd m
free_at (Seen.Port p) x m = absurd m
free_at (Seen.Struct s i n f) x m = absurd m

among_free : (seens : List Seen) (x : Var) → IsAmong x (free_variables seens) → (i : ℕ) × (slice_get seens i ≡ Some (Free x))
among_free [] x m = absurd m
among_free (s ∷ seens) x m = elim (among-either (free_in s) (free_variables seens) x m) [
  | inl h ↦ (0, ap Some (free_at s x h))
  | inr h ↦ (let w : (i : ℕ) × (slice_get seens i ≡ Some (Free x)) = among_free seens x h in (suc w.0, w.1))
]

free_among : (seens : List Seen) (i : ℕ) (x : Var) → slice_get seens i ≡ Some (Free x) → IsAmong x (free_variables seens)
free_among [] i x e = cc
free_among (s ∷ seens) zero x e = among-left (free_in s) (free_variables seens) x (let q : s ≡ Free x = cc in subst (λ (r : Seen). IsAmong x (free_in r)) (sym q) (inl refl))
free_among (s ∷ seens) (suc i) x e = among-right (free_in s) (free_variables seens) x (free_among seens i x e)

-- without bindings each term is its own end

plain_end : (nodes : List Node) (u : Tree) → end_of nodes [] u ≡ u
plain_end nodes (variable x) = refl
plain_end nodes (integer z) = refl
plain_end nodes (port p) = refl
plain_end nodes (symbol f ts) = refl

occurs_at : (us : List Tree) (k : ℕ) (u : Tree) (x : Var) → slice_get us k ≡ Some u → Occurs x u → OccursShown x us
occurs_at [] k u x e o = cc
occurs_at (v ∷ us) zero u x e o = inl (let q : v ≡ u = cc in subst (Occurs x) (sym q) o)
occurs_at (v ∷ us) (suc k) u x e o = inr (occurs_at us k u x e o)

reached_occurs : (nodes : List Node) (us : List Tree) (x : Var) {v : Tree} → IsReached (end_of nodes []) us v → Occurs x v → OccursShown x us
reached_occurs nodes us x (at_start {u = u} k e) o = occurs_at us k u x e (subst (Occurs x) (plain_end nodes u) o)
reached_occurs nodes us x (below {v = v} {a = a} k r e) o = reached_occurs nodes us x r (argument_occurs x v k a e (subst (Occurs x) (plain_end nodes a) o))

-- a variable of a node's term is that of a node

module _ (t : Template) (seens : List Seen) (rows : List (List ℕ)) (b : IsBuilt (end_of t.nodes []) (graph_of t seens rows) (some_tops seens)) (x : Var) where
  abbrev HasNode : Type 0
  HasNode = (j : ℕ) × Stands (graph_of t seens rows) j (variable x)

  mutual
    finds : (u : Tree) (i : ℕ) → Stands (graph_of t seens rows) i u → Occurs x u → HasNode
    finds (variable y) i p o = (i, subst (λ (z : Var). Stands (graph_of t seens rows) i (variable z)) (sym o) p)
    finds (integer z) i p o = absurd o
    finds (port q) i p o = absurd o
    finds (symbol f ts) i p o =
        finds_among ts (λ k a e. let w : _ = b.argument i k (symbol f ts) a p e in (w.0, subst (Stands (graph_of t seens rows) w.0) (plain_end t.nodes a) w.2)) o

    finds_among : (ts : Trees) → ((k : ℕ) (a : Tree) → slice_get (list_of ts) k ≡ Some a → (j : ℕ) × Stands (graph_of t seens rows) j a) → OccursAmong x ts → HasNode
    finds_among none h o = absurd o
    finds_among (more a ts) h (inl o) = let w : (j : ℕ) × Stands (graph_of t seens rows) j a = h 0 a refl in finds a w.0 w.1 o
    finds_among (more a ts) h (inr o) = finds_among ts (λ k c e. h (suc k) c e) o

  end_at : (i : ℕ) (u : Tree) → IsEndAt t (end_of t.nodes []) seens i u → Stands (graph_of t seens rows) i u
  end_at i u e = slice_get-map (seen_tree t.nodes) seens i ∙ ap (option_map (seen_tree t.nodes)) e.begins ∙ ap Some (e.is ∙ plain_end t.nodes u)

  shown_found : (us : List Tree) (is : List ℕ) → AreNodesOf t (end_of t.nodes []) seens us is → OccursShown x us → HasNode
  shown_found [] is n o = absurd o
  shown_found (u ∷ us) [] n o = absurd n
  shown_found (u ∷ us) (i ∷ is) n (inl o) = finds u i (end_at i u n.0) o
  shown_found (u ∷ us) (i ∷ is) n (inr o) = shown_found us is n.1 o

  begins_free : (s : Seen) → seen_tree t.nodes s ≡ variable x → s ≡ Free x
  begins_free (Free y) e = let q : y ≡ x = cc in ap (λ (z : Var). Free z) q
  begins_free (Seen.Int z) e = cc
  begins_free (Seen.Port p) e = cc
  begins_free (Seen.Struct s i n f) e = cc

  node_among : HasNode → IsAmong x (free_variables seens)
  node_among w = on (slice_get seens w.0) refl (sym (slice_get-map (seen_tree t.nodes) seens w.0) ∙ w.1)
    where
      on : (o : Option Seen) → slice_get seens w.0 ≡ o → option_map (seen_tree t.nodes) o ≡ Some (variable x) → IsAmong x (free_variables seens)
      on None e q = cc
      on (Some s) e q = free_among seens w.0 x (e ∙ ap Some (begins_free s (let z : Some (seen_tree t.nodes s) ≡ Some (variable x) = q in cc)))

  pub occurring_among : (us : List Tree) (is : List ℕ) → AreNodesOf t (end_of t.nodes []) seens us is → OccursShown x us → IsAmong x (free_variables seens)
  occurring_among us is n o = node_among (shown_found us is n o)

-- the terms of shown terms and bindings

abbrev bound_terms : List Node → List (Var × Term) → List Tree
bound_terms nodes bs = map (λ (b : Var × Term). tree nodes b.1) bs

shown_either : (us vs : List Tree) (x : Var) → OccursShown x (us ++ vs) → OccursShown x us ⊎ OccursShown x vs
shown_either [] vs x o = inr o
shown_either (u ∷ us) vs x (inl o) = inl (inl o)
shown_either (u ∷ us) vs x (inr o) = elim (shown_either us vs x o) [ inl h ↦ inl (inr h) | inr h ↦ inr h ]

shown_left : (us vs : List Tree) (x : Var) → OccursShown x us → OccursShown x (us ++ vs)
shown_left [] vs x o = absurd o
shown_left (u ∷ us) vs x (inl o) = inl o
shown_left (u ∷ us) vs x (inr o) = inr (shown_left us vs x o)

shown_right : (us vs : List Tree) (x : Var) → OccursShown x vs → OccursShown x (us ++ vs)
shown_right [] vs x o = o
shown_right (u ∷ us) vs x o = inr (shown_right us vs x o)

module _ (nodes : List Node) where
  starts_are : (shown : List ShownTerm) (bs : List (Var × Term)) → map (start_tree nodes) (map (λ (s : ShownTerm). Start.Term s.term) shown ++ map (λ (b : Var × Term). Start.Term b.1) bs) ≡ shown_terms nodes shown ++ bound_terms nodes bs
  starts_are [] [] = refl
  starts_are [] (b ∷ bs) = ap (λ (l : List Tree). tree nodes b.1 ∷ l) (starts_are [] bs)
  starts_are (s ∷ shown) bs = ap (λ (l : List Tree). tree nodes s.term ∷ l) (starts_are shown bs)

  bound_occurs : (bs : List (Var × Term)) (x : Var) → OccursShown x (bound_terms nodes bs) → OccursIn x (bindings_in nodes bs)
  bound_occurs [] x o = absurd o
  bound_occurs (b ∷ bs) x (inl o) = inr (inl o)
  bound_occurs (b ∷ bs) x (inr o) = inr (inr (bound_occurs bs x o))

  key_occurs : (bs : List (Var × Term)) (x : Var) → IsAmong x (map (λ (b : Var × Term). b.0) bs) → OccursIn x (bindings_in nodes bs)
  key_occurs [] x m = absurd m
  key_occurs (b ∷ bs) x (inl e) = inl e
  key_occurs (b ∷ bs) x (inr m) = inr (inr (key_occurs bs x m))

  occurs_or : (bs : List (Var × Term)) (x : Var) → OccursIn x (bindings_in nodes bs) → IsAmong x (map (λ (b : Var × Term). b.0) bs) ⊎ OccursShown x (bound_terms nodes bs)
  occurs_or [] x o = absurd o
  occurs_or (b ∷ bs) x (inl e) = inl (inl e)
  occurs_or (b ∷ bs) x (inr (inl o)) = inr (inl o)
  occurs_or (b ∷ bs) x (inr (inr o)) = elim (occurs_or bs x o) [ inl h ↦ inl (inr h) | inr h ↦ inr (inr h) ]

-- what is put in order are the variables that occur
module _ (t : Template) (bs : List (Var × Term)) (shown : List ShownTerm) (seens : List Seen) (rows : List (List ℕ)) (is : List ℕ) (starts : List Start)
    (of : starts ≡ map (λ (s : ShownTerm). Start.Term s.term) shown ++ map (λ (b : Var × Term). Start.Term b.1) bs) (along : IsBuiltAlong t (end_of t.nodes []) seens rows)
    (n : AreNodesOf t (end_of t.nodes []) seens (map (start_tree t.nodes) starts) is) (r : AreReached t (end_of t.nodes []) (map (start_tree t.nodes) starts) seens) where
  abbrev terms : List Tree
  terms = shown_terms t.nodes shown ++ bound_terms t.nodes bs

  abbrev keys : List Var
  keys = map (λ (b : Var × Term). b.0) bs

  are : map (start_tree t.nodes) starts ≡ terms
  are = ap (map (start_tree t.nodes)) of ∙ starts_are t.nodes shown bs

  listed : (x : Var) → OccursShown x terms → IsAmong x (free_variables seens ++ keys)
  listed x o = among-left (free_variables seens) keys x
      (occurring_among t seens rows (along.built (some_tops seens) (some-tops-tell t seens)) x terms is (subst (λ (us : List Tree). AreNodesOf t (end_of t.nodes []) seens us is) are n) o)

  free_occurs : (x : Var) → IsAmong x (free_variables seens) → OccursIn x (bindings_in t.nodes bs) ⊎ OccursShown x (shown_terms t.nodes shown)
  free_occurs x m =
      let w : (i : ℕ) × (slice_get seens i ≡ Some (Free x)) = among_free seens x m in
      let o : OccursShown x terms = subst (OccursShown x) are (reached_occurs t.nodes (map (start_tree t.nodes) starts) x (r w.0 (Free x) w.1) refl) in
      elim (shown_either (shown_terms t.nodes shown) (bound_terms t.nodes bs) x o) [ inl h ↦ inr h | inr h ↦ inl (bound_occurs t.nodes bs x h) ]

  pub are_variables : (list : List Var) → AreOnce (free_variables seens ++ keys) list → AreVariablesOf t.nodes bs shown list
  are_variables list a = record {
    increasing = a.increasing;
    each = λ x m. elim (among-either (free_variables seens) keys x (a.each x m)) [ inl h ↦ free_occurs x h | inr h ↦ inl (key_occurs t.nodes bs x h) ];
    every = λ x o. a.every x (elim o [
      | inl h ↦ elim (occurs_or t.nodes bs x h) [
        | inl k ↦ among-right (free_variables seens) keys x k
        | inr k ↦ listed x (shown_right (shown_terms t.nodes shown) (bound_terms t.nodes bs) x k)
      ]
      | inr h ↦ listed x (shown_left (shown_terms t.nodes shown) (bound_terms t.nodes bs) x h)
    ]);
  }
