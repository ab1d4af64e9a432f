-- A term graph with its classes is decided, under whatever equations its terms are represented.
use Rattle.std.proofs.Common.{◌≡◌, ℕ, zero, suc, ◌<◌, ◌≤◌, inl, inr, List, [], ◌∷◌, length, map, sym, ◌∙◌, ap, Some, refl, arith}
use Rattle.std.specs.Prelude.{slice_get, get_or, pos, option_map, ◌⊎◌}
use Rattle.std.proofs.lemmas.List.{length-map}
use Rattle.std.proofs.lemmas.Option.{slice_get-map, slice_get_within, slice_get-get_or}
use Rattle.akl_terms.specs.declared.term.Seen.{Seen}
use Rattle.akl_terms.specs.Tree.{Tree}
use Rattle.akl_terms.specs.Equal.{Equations, Equal}
use Rattle.akl_terms.specs.Template.{Template}
use Rattle.answer_text.specs.BuiltGraph.{at_node, IsWorkedOut}
use Rattle.answer_text.specs.Classes.{Represents}
use Rattle.answer_text.specs.Graph.{Stands, IsDecided}
use Rattle.answer_text.proofs.WorkedOut.{decided}
use Rattle.cycle_marks.specs.Components.{rank_of, is_cyclic}
use Rattle.cycle_marks.specs.Rows as edges
use Rattle.tree_parts.specs.Parts as parts
use Rattle.term_graph.specs.Building.{seen_tree, argument_of, IsTermGraph, IsEndAt}
use Rattle.term_graph.specs.Built.{graph_of, TellBeginnings, IsBuiltAlong}
use Rattle.tree_classes.specs.Classes.{ClassesValue, AreClasses}

get_or-behind : (xs : List ℕ) (i : ℕ) → length xs ≤ i → get_or xs i 0 ≡ 0
get_or-behind [] i h = refl
get_or-behind (x ∷ xs) zero h = absurd (omega (arith, h))
get_or-behind (x ∷ xs) (suc i) h = get_or-behind xs i (omega (arith, h))

nat_lt_or : (a b : ℕ) → (a < b) ⊎ (b ≤ a)
nat_lt_or a zero = inr (omega arith)
nat_lt_or zero (suc b) = inl (omega arith)
nat_lt_or (suc a) (suc b) = elim (nat_lt_or a b) [ inl l ↦ inl (omega (arith, l)) | inr l ↦ inr (omega (arith, l)) ]

module _ (t : Template) (go : Tree → Tree) (seens : List Seen) (rows : List (List ℕ)) (g : IsTermGraph t go seens rows) (b : IsBuiltAlong t go seens rows) where
  terms-size : length (map (seen_tree t.nodes) seens) ≡ length rows
  terms-size = length-map seens (seen_tree t.nodes) ∙ sym g.size

  pub stands-less : (i : ℕ) (u : Tree) → Stands (graph_of t seens rows) i u → i < length rows
  stands-less i u p = let l : i < length (map (seen_tree t.nodes) seens) = slice_get_within (map (seen_tree t.nodes) seens) i u p in omega (arith, l, terms-size)

  stands-some : (i : ℕ) → i < length rows → (u : Tree) × Stands (graph_of t seens rows) i u
  stands-some i h =
      let s : slice_get seens i ≡ Some (get_or seens i (Seen.Int (pos 0))) = slice_get-get_or seens i (Seen.Int (pos 0)) (omega (arith, h, g.size)) in
      (seen_tree t.nodes (get_or seens i (Seen.Int (pos 0))), slice_get-map (seen_tree t.nodes) seens i ∙ ap (option_map (seen_tree t.nodes)) s)

  -- entries are nodes
  entry-less : (i k j : ℕ) (row : List ℕ) → slice_get rows i ≡ Some row → slice_get row k ≡ Some j → j < length rows
  entry-less i k j row of to =
      let h : i < length rows = slice_get_within rows i row of in
      let s : slice_get seens i ≡ Some (get_or seens i (Seen.Int (pos 0))) = slice_get-get_or seens i (Seen.Int (pos 0)) (omega (arith, h, g.size)) in
      let e : IsEndAt t go seens j (argument_of t.nodes (get_or seens i (Seen.Int (pos 0))) k) = (g.row i (get_or seens i (Seen.Int (pos 0))) row s of).each k j to in
      let l : j < length seens = slice_get_within seens j e.seen e.begins in omega (arith, l, g.size)

  pub edges-within : edges.AreWithin rows
  edges-within i j e = entry-less i e.place j e.row e.of e.to

  pub entries-within : parts.AreWithin rows
  entries-within i k j e = entry-less i k j e.row e.of e.to

  -- a term stands at the node of its end
  pub end-stands : (E : Equations) → Represents E go → (i : ℕ) (u : Tree) → IsEndAt t go seens i u → (v : Tree) × Stands (graph_of t seens rows) i v × Equal E u v
  end-stands E r i u e = (go u, slice_get-map (seen_tree t.nodes) seens i ∙ ap (option_map (seen_tree t.nodes)) e.begins ∙ ap Some e.is, r.equal u)

  module _ (tops : List ℕ) (c : ClassesValue) (n : TellBeginnings t seens tops) (k : AreClasses rows tops c) where
    -- a class is called by a node: one that isn't there would have class 0
    class-less : (i : ℕ) → i < length rows → at_node c.blocks i < length rows
    class-less i h = from (nat_lt_or (at_node c.blocks i) (length rows))
      where
        from : (at_node c.blocks i < length rows) ⊎ (length rows ≤ at_node c.blocks i) → at_node c.blocks i < length rows
        from (inl l) = l
        from (inr l) =
            let z : at_node c.blocks (at_node c.blocks i) ≡ 0 = get_or-behind c.blocks (at_node c.blocks i) (omega (arith, l, k.size)) in
            let f : at_node c.blocks (at_node c.blocks i) ≡ at_node c.blocks i = k.first i h in omega (arith, z, f, h)

    pub class-stands : (i : ℕ) (u : Tree) → Stands (graph_of t seens rows) i u → (v : Tree) × Stands (graph_of t seens rows) (at_node c.blocks i) v × (at_node c.blocks (at_node c.blocks i) ≡ at_node c.blocks i)
    class-stands i u p =
        let h : i < length rows = stands-less i u p in
        let s : (v : Tree) × Stands (graph_of t seens rows) (at_node c.blocks i) v = stands-some (at_node c.blocks i) (class-less i h) in
        (s.0, s.1, k.first i h)

    worked : IsWorkedOut t.symbols go (graph_of t seens rows) tops c.blocks (rank_of c.marks) (is_cyclic c.marks)
    worked = record { built = b.built tops n; coarsest = k.coarsest (map (seen_tree t.nodes) seens) terms-size; certified = k.certified (map (seen_tree t.nodes) seens) terms-size; names = b.names }

    pub graph-decided : (E : Equations) → Represents E go → IsDecided t.symbols E (graph_of t seens rows) (at_node c.blocks) (λ i. rank_of c.marks (at_node c.blocks i)) (λ i. is_cyclic c.marks (at_node c.blocks i))
    graph-decided E r = decided t.symbols go (graph_of t seens rows) tops c.blocks (rank_of c.marks) (is_cyclic c.marks) worked E r
