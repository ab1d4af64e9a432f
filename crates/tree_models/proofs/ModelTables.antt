-- The table that is made of a solved form's graph, and the model of a chain.
use Rattle.std.proofs.Common.{◌≡◌, ℕ, ◌<◌, ◌+◌, zero, suc, List, [], ◌∷◌, ◌++◌, length, map, take, drop, get_or, Option, Some, None, Bool, true, false, pos, refl, sym, ◌∙◌, ap, subst, inl, inr, arith}
use Rattle.std.specs.Prelude.{◌⊎◌, slice_get, option_map, if◌then◌else◌}
use Rattle.std.specs.List.Sorted.{IsStrictlySortedBy}
use Rattle.std.proofs.lemmas.List.{length-map, length-append, map-append, take-append-drop}
use Rattle.std.proofs.lemmas.Option.{slice_get-map, slice_get-get_or, slice_get_within, get_or_from_slice_get}
use Rattle.akl_terms.specs.declared.name.Var.{Var}
use Rattle.akl_terms.specs.declared.program.ShownTerm.{ShownTerm}
use Rattle.akl_terms.specs.declared.term.Node.{Node}
use Rattle.akl_terms.specs.declared.term.Seen.{Seen}
use Rattle.akl_terms.specs.declared.term.Seen.TheVariants.{Free}
use Rattle.akl_terms.specs.declared.term.Term.{Term}
use Rattle.akl_terms.specs.declared.term.Term.TheVariants.{Mol}
use Rattle.akl_terms.specs.Names.{same_var, var_cmp}
use Rattle.akl_terms.specs.Tree.{Tree, variable, Head, head_of}
use Rattle.akl_terms.specs.Equal.{Equations, Equal}
use Rattle.akl_terms.specs.Template.{Template, tree}
use Rattle.akl_terms.proofs.SameNames.{same_var-equal}
use Rattle.akl_terms.proofs.Unfolding.{length-trees_from}
use Rattle.answer_text.specs.Printed.{IsFree}
use Rattle.answer_text.specs.Classes.{Represents}
use Rattle.answer_text.specs.Graph.{Graph, Stands}
use Rattle.constraint_laws.specs.Touched.{IsAmong}
use Rattle.rational_unify.specs.Solving.{bindings_in}
use Rattle.term_graph.specs.Building.{seen_tree, IsEndAt, count_of}
use Rattle.term_graph.specs.Built.{graph_of, TellBeginnings}
use Rattle.tree_classes.specs.Classes.{ClassesValue, AreClasses}
use Rattle.tree_classes.proofs.Decided.{stands-less, end-stands, class-stands, graph-decided}
use Rattle.tree_models.specs.declared.cell.Cell.{Cell}
use Rattle.tree_models.specs.declared.cell.Cell.TheVariants.{Free as free}
use Rattle.tree_models.specs.declared.model.Given.{Given}
use Rattle.tree_models.specs.declared.model.TreeModel.{TreeModel}
use Rattle.tree_models.specs.declared.starts.Start.{Start}
use Rattle.tree_models.specs.declared.starts.StartGraph.{StartGraph}
use Rattle.tree_models.specs.Cells.{cell_by, cell_in, seen_in}
use Rattle.tree_models.specs.Found.{IsModelGraph, IsTableOf}
use Rattle.tree_models.specs.Laws.{IsCellOf, of_class, of_number, of_port, of_symbol, IsDecidedGraph, IsFound, IsTableFound}
use Rattle.tree_models.specs.Made.{given_by, rows_of, IsMade}
use Rattle.tree_models.specs.Solutions.{OccursIn, OccursShown, IsPlaced, Visits, AreShownAt, IsModel, shown_terms}
use Rattle.tree_models.specs.Starts.{start_tree, AreNodesOf}
use Rattle.tree_models.specs.Tables.{table_of, place_in}
use Rattle.tree_models.specs.Variables.{AreVariablesOf}
use Rattle.tree_models.specs.Visiting.{IsOne, class_of, row_of, place_by}
use Rattle.tree_models.proofs.Found.{found}
use Rattle.tree_models.proofs.GivenLists.{given_variables, given_places, placed, among_placed}
use Rattle.tree_models.proofs.StartNodes.{nodes_length, nodes_front, nodes_behind, node_of}

abbrev variable_terms : List Var → List Tree
variable_terms xs = map (λ (x : Var). variable x) xs

pub starts_shown : (nodes : List Node) (shown : List ShownTerm) (xs : List Var) → map (start_tree nodes) (map (λ (s : ShownTerm). Start.Term s.term) shown ++ map (λ (x : Var). Start.Variable x) xs) ≡ shown_terms nodes shown ++ variable_terms xs
starts_shown nodes [] [] = refl
starts_shown nodes [] (x ∷ xs) = ap (λ (l : List Tree). variable x ∷ l) (starts_shown nodes [] xs)
starts_shown nodes (s ∷ shown) xs = ap (λ (l : List Tree). tree nodes s.term ∷ l) (starts_shown nodes shown xs)

one_taken : (c k : ℕ) (xs : List ℕ) → IsOne c (take k xs) → IsOne c xs
one_taken c zero xs m = absurd m
one_taken c (suc k) [] m = absurd m
one_taken c (suc k) (x ∷ xs) (inl e) = inl e
one_taken c (suc k) (x ∷ xs) (inr m) = inr (one_taken c k xs m)

one_dropped : (c k : ℕ) (xs : List ℕ) → IsOne c (drop k xs) → IsOne c xs
one_dropped c zero xs m = m
one_dropped c (suc k) [] m = absurd m
one_dropped c (suc k) (x ∷ xs) m = inr (one_dropped c k xs m)

-- a graph of shown terms and variables has a node for each
module _ (t : Template) (go : Tree → Tree) (shown : List ShownTerm) (variables : List Var) (g : StartGraph) (w : IsModelGraph t go shown variables g) where
  pub starts_length : length g.starts.items ≡ length shown + length variables
  starts_length =
      let a : length g.starts.items ≡ length (shown_terms t.nodes shown ++ variable_terms variables) = nodes_length t go g.seens.items (shown_terms t.nodes shown ++ variable_terms variables) g.starts.items w.starts in
      let b : length (shown_terms t.nodes shown ++ variable_terms variables) ≡ length (shown_terms t.nodes shown) + length (variable_terms variables) = length-append (shown_terms t.nodes shown) (variable_terms variables) in
      let c : length (shown_terms t.nodes shown) ≡ length shown = length-map shown (λ (s : ShownTerm). tree t.nodes s.term) in
      let d : length (variable_terms variables) ≡ length variables = length-map variables (λ (x : Var). variable x) in
      omega (arith, a, b, c, d)

  front : AreNodesOf t go g.seens.items (shown_terms t.nodes shown) (take (length shown) g.starts.items)
  front = subst (λ (n : ℕ). AreNodesOf t go g.seens.items (shown_terms t.nodes shown) (take n g.starts.items)) (length-map shown (λ (s : ShownTerm). tree t.nodes s.term))
      (nodes_front t go g.seens.items (shown_terms t.nodes shown) (variable_terms variables) g.starts.items w.starts)

  behind : AreNodesOf t go g.seens.items (variable_terms variables) (drop (length shown) g.starts.items)
  behind = subst (λ (n : ℕ). AreNodesOf t go g.seens.items (variable_terms variables) (drop n g.starts.items)) (length-map shown (λ (s : ShownTerm). tree t.nodes s.term))
      (nodes_behind t go g.seens.items (shown_terms t.nodes shown) (variable_terms variables) g.starts.items w.starts)

  as_many : length variables ≡ length (drop (length shown) g.starts.items)
  as_many = sym (nodes_length t go g.seens.items (variable_terms variables) (drop (length shown) g.starts.items) behind ∙ length-map variables (λ (x : Var). variable x))

  abbrev graph : Graph
  graph = graph_of t g.seens.items (rows_of g)

  -- how a node begins
  begin_of : (i : ℕ) (u : Tree) → Stands graph i u → (s : Seen) × (slice_get g.seens.items i ≡ Some s) × (seen_tree t.nodes s ≡ u)
  begin_of i u p = on (slice_get g.seens.items i) refl (sym (slice_get-map (seen_tree t.nodes) g.seens.items i) ∙ p)
    where
      on : (o : Option Seen) → slice_get g.seens.items i ≡ o → option_map (seen_tree t.nodes) o ≡ Some u → (s : Seen) × (slice_get g.seens.items i ≡ Some s) × (seen_tree t.nodes s ≡ u)
      on (Some s) e q = (s, e, (let z : Some (seen_tree t.nodes s) ≡ Some u = q in cc))
      on None e q = absurd cc

  -- the node of a variable's place
  given_node : (place : ℕ → ℕ) (xs : List Var) (is : List ℕ) → AreNodesOf t go g.seens.items (variable_terms xs) is → (x : Var) (p : ℕ) → place_in x (given_by place xs is) ≡ Some p
      → (i : ℕ) × IsEndAt t go g.seens.items i (variable x) × IsOne i is × (place i ≡ p)
  given_node place [] is n x p e = cc
  given_node place (y ∷ xs) [] n x p e = absurd n
  given_node place (y ∷ xs) (i ∷ is) n x p e = on (same_var x y) refl e (λ f. given_node place xs is n.1 x p f)
    where
      on : (b : Bool) → same_var x y ≡ b → (if b then Some (place i) else place_in x (given_by place xs is)) ≡ Some p
          → (place_in x (given_by place xs is) ≡ Some p → (j : ℕ) × IsEndAt t go g.seens.items j (variable x) × IsOne j is × (place j ≡ p))
          → (j : ℕ) × IsEndAt t go g.seens.items j (variable x) × IsOne j (i ∷ is) × (place j ≡ p)
      on true q f h = (i, subst (λ (z : Var). IsEndAt t go g.seens.items i (variable z)) (sym (same_var-equal x y q)) n.0, inl refl, (let z : Some (place i) ≡ Some p = f in cc))
      on false q f h = let r : (j : ℕ) × IsEndAt t go g.seens.items j (variable x) × IsOne j is × (place j ≡ p) = h f in (r.0, r.1, inr r.2, r.3)

  module _ (tops : List ℕ) (c : ClassesValue) (n : TellBeginnings t g.seens.items tops) (k : AreClasses (rows_of g) tops c) (m : TreeModel) (d : IsMade g c.blocks (length shown) variables m) (E : Equations) (r : Represents E go) where
    abbrev place : ℕ → ℕ
    place = place_by c.blocks d.order

    decided_graph : IsDecidedGraph E graph (class_of c.blocks)
    decided_graph = let e = graph-decided t go g.seens.items (rows_of g) w.graph w.built tops c n k E r in record { consistent = r.consistent; graph = e.graph; stable = e.stable; fair = e.fair }

    cell_is : (s : Seen) (row : List ℕ) → IsFree E (seen_tree t.nodes s) ⊎ ((h : Head) × (head_of (seen_tree t.nodes s) ≡ Some h)) → length row ≡ count_of s → IsCellOf E place row (seen_tree t.nodes s) (cell_by s (map place row))
    cell_is (Free x) row (inl f) l = of_class f
    cell_is (Free x) row (inr h) l = absurd (let z : None ≡ Some h.0 = h.1 in cc)
    cell_is (Seen.Int z) row o l = of_number
    cell_is (Seen.Port q) row o l = of_port
    cell_is (Seen.Struct s i a f) row o l = of_symbol (l ∙ sym (length-trees_from (λ j. tree t.nodes (Mol j f)) i a))

    its_cell : (p q : ℕ) (u : Tree) (row : List ℕ) → slice_get d.order p ≡ Some q → Stands graph q u → slice_get (rows_of g) q ≡ Some row → (j : Cell) × (slice_get m.cells.items p ≡ Some j) × IsCellOf E place row u j
    its_cell p q u row e s o =
        let less : p < length d.order = slice_get_within d.order p q e in
        let size : length m.cells.items ≡ length d.order = d.cells.size in
        let at : slice_get m.cells.items p ≡ Some (get_or m.cells.items p free) = slice_get-get_or m.cells.items p free (omega (arith, less, size)) in
        let b : (s : Seen) × (slice_get g.seens.items q ≡ Some s) × (seen_tree t.nodes s ≡ u) = begin_of q u s in
        let is : get_or m.cells.items p free ≡ cell_in g.seens.items (rows_of g) c.blocks d.order q = d.cells.first.each p q (get_or m.cells.items p free) e at in
        let same_seen : seen_in g.seens.items q ≡ b.0 = get_or_from_slice_get g.seens.items q b.0 (Seen.Int (pos 0)) b.1 in
        let same_row : row_of (rows_of g) q ≡ row = get_or_from_slice_get (rows_of g) q row [] o in
        let cell : get_or m.cells.items p free ≡ cell_by b.0 (map place row) = is ∙ (λ i. cell_by (same_seen i) (map place (same_row i))) in
        let ends : IsFree E u ⊎ ((h : Head) × (head_of u ≡ Some h)) = decided_graph.graph.ends q u s in (
          get_or m.cells.items p free,
          at,
          subst (IsCellOf E place row u) (sym cell) (subst (λ (v : Tree). IsCellOf E place row v (cell_by b.0 (map place row))) b.2
              (cell_is b.0 row (subst (λ (v : Tree). IsFree E v ⊎ ((h : Head) × (head_of v ≡ Some h))) (sym b.2) ends) (w.graph.row q b.0 row b.1 o).size)),
        )

    its_given : (x : Var) (p : ℕ) → place_in x m.given.items ≡ Some p → (i : ℕ) × (u : Tree) × IsOne i g.starts.items × Stands graph i u × Equal E (variable x) u × (place i ≡ p)
    its_given x p e =
        let b : (i : ℕ) × IsEndAt t go g.seens.items i (variable x) × IsOne i (drop (length shown) g.starts.items) × (place i ≡ p) =
        given_node place variables (drop (length shown) g.starts.items) behind x p (ap (place_in x) (sym d.given) ∙ e) in
        let s : (v : Tree) × Stands graph b.0 v × Equal E (variable x) v = end-stands t go g.seens.items (rows_of g) w.graph w.built E r b.0 (variable x) b.1 in
        (b.0, s.0, one_dropped b.0 (length shown) g.starts.items b.2, s.1, s.2, b.3)

    found_so : IsFound E graph c.blocks g.starts.items d.order (table_of m)
    found_so = record {
      row = λ i u p. (get_or (rows_of g) i [], slice_get-get_or (rows_of g) i [] (stands-less t go g.seens.items (rows_of g) w.graph w.built i u p));
      first = class-stands t go g.seens.items (rows_of g) w.graph w.built tops c n k;
      start = λ i o.
          let e : (u : Tree) × IsEndAt t go g.seens.items i u = node_of t go g.seens.items (shown_terms t.nodes shown ++ variable_terms variables) g.starts.items w.starts i o in
          let s : (v : Tree) × Stands graph i v × Equal E e.0 v = end-stands t go g.seens.items (rows_of g) w.graph w.built E r i e.0 e.1 in
          (s.0, s.1);
      visits = d.visits;
      size = d.cells.size;
      cell = its_cell;
      given = its_given;
    }

    table : IsTableFound E graph c.blocks g.starts.items d.order (table_of m)
    table = found E graph c.blocks g.starts.items d.order (table_of m) decided_graph found_so

    shown_stand : (us : List Tree) (is : List ℕ) → AreNodesOf t go g.seens.items us is → ((i : ℕ) → IsOne i is → IsOne i g.starts.items) → ((x : Var) → OccursShown x us → IsPlaced (table_of m) x) → AreShownAt (table_of m) us (map place is)
    shown_stand [] [] a o h = tt
    shown_stand [] (i ∷ is) a o h = absurd a
    shown_stand (u ∷ us) [] a o h = absurd a
    shown_stand (u ∷ us) (i ∷ is) a o h =
        let s : (v : Tree) × Stands graph i v × Equal E u v = end-stands t go g.seens.items (rows_of g) w.graph w.built E r i u a.0 in
        (table.stands i u s.0 (o i (inl refl)) s.1 s.2 (λ x y. h x (inl y)), shown_stand us is a.1 (λ j z. o j (inr z)) (λ x y. h x (inr y)))

    all_places : m.shown.items ++ map (λ (e : Given). e.place) m.given.items ≡ map place g.starts.items
    all_places =
        (λ i. d.shown i ++ map (λ (e : Given). e.place) (d.given i))
        ∙ ap (λ (l : List ℕ). map place (take (length shown) g.starts.items) ++ l) (given_places place variables (drop (length shown) g.starts.items) as_many)
        ∙ sym (map-append place (take (length shown) g.starts.items) (drop (length shown) g.starts.items)) ∙ ap (map place) (take-append-drop (length shown) g.starts.items)

    pub table_made : IsTableOf t.nodes E shown variables m
    table_made = record {
      merges = table.merges;
      within = table.within;
      variables_are = ap (map (λ (e : Given). e.variable)) d.given ∙ given_variables place variables (drop (length shown) g.starts.items) as_many;
      shown_at = λ h. subst (AreShownAt (table_of m) (shown_terms t.nodes shown)) (sym d.shown)
          (shown_stand (shown_terms t.nodes shown) (take (length shown) g.starts.items) front (λ i o. one_taken i (length shown) g.starts.items o) h);
      visited = subst (λ (ps : List ℕ). Visits m.cells.items 0 ps (length m.cells.items)) (sym all_places) table.visited;
    }

-- a table over all variables of bindings and shown terms is the model
module _ (nodes : List Node) (bs : List (Var × Term)) (shown : List ShownTerm) (variables : List Var) (v : AreVariablesOf nodes bs shown variables) (m : TreeModel) (t : IsTableOf nodes (bindings_in nodes bs) shown variables m) where
  has_place : (x : Var) → OccursIn x (bindings_in nodes bs) ⊎ OccursShown x (shown_terms nodes shown) → IsPlaced (table_of m) x
  has_place x o = placed m.given.items x (subst (IsAmong x) (sym t.variables_are) (v.every x o))

  pub is_model : IsModel (bindings_in nodes bs) (shown_terms nodes shown) m
  is_model = record {
    solves = t.merges.solves (λ x o. has_place x (inl o));
    within = t.within;
    increasing = subst (IsStrictlySortedBy var_cmp) (sym t.variables_are) v.increasing;
    placed = λ x o. has_place x (inr o);
    only = λ x p. v.each x (subst (IsAmong x) t.variables_are (among_placed m.given.items x p.0 p.1));
    shown_at = t.shown_at (λ x o. has_place x (inr o));
    free_unstructured = t.merges.free_unstructured;
    unstructured_free = t.merges.unstructured_free;
    one_place = t.merges.one_place;
    same_tree = t.merges.same_tree;
    distinct = t.merges.distinct;
    visited = t.visited;
  }
