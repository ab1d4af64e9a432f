-- The coarsest partition, and the components of its blocks, decide the trees of a graph.
use Rattle.std.proofs.Common.{◌≡◌, ℕ, ◌<◌, ◌≤◌, List, [], length, map, Some, refl, sym, ◌∙◌, ap, subst, arith}
use Rattle.std.specs.Prelude.{slice_get, get_or, option_map, Option, None}
use Rattle.std.proofs.lemmas.Option.{slice_get_within, slice_get-get_or, get_or_from_slice_get, slice_get-map}
use Rattle.akl_terms.specs.Tree.{Tree, symbol, none}
use Rattle.answer_text.specs.Graph.{Graph, Stands, IsChild}
use Rattle.answer_text.specs.BuiltGraph as built
use Rattle.answer_text.specs.BuiltGraph.{at_node, IsCoarsest, IsCertified, Passes, one_step, and_on}
use Rattle.cycle_marks.specs.Rows.{IsEdge, Leads, by_edge, onward, AreRanked}
use Rattle.cycle_marks.specs.Rows as edges
use Rattle.cycle_marks.specs.Components.{Marks, rank_of, is_cyclic}
use Rattle.tree_parts.specs.Parts.{IsEntry, AreWithin, AreEven, Differ, by_start, by_entry, IsRefined}
use Rattle.tree_classes.specs.Classes.{AreClasses, AreBlockRows}

module _ (rows : List (List ℕ)) (tops blocks : List ℕ) (within : AreWithin rows) (even : AreEven rows tops) (r : IsRefined rows tops blocks) (among : List (List ℕ)) (a : AreBlockRows rows blocks among (length rows)) where
  abbrev block : ℕ → ℕ
  block i = get_or blocks i 0

  size : length blocks ≡ length rows
  size = r.partition.size

  itself : (i : ℕ) → i < length rows → block (block i) ≡ block i
  itself i h = r.partition.named.itself i (omega (arith, h, size))

  first-within : (i : ℕ) → i < length rows → block i < length rows
  first-within i h = let l : block i ≤ i = r.partition.named.before i (omega (arith, h, size)) in omega (arith, l, h)

  entry-within : (i k j : ℕ) → IsEntry rows i k j → i < length rows
  entry-within i k j e = slice_get_within rows i e.row e.of

  -- the first node of a block has an entry of the same block at each place
  record HasEntry (i k j : ℕ) : Type 0 where
    other : ℕ
    entry : IsEntry rows (block i) k other
    same : block other ≡ block j

  first-entry : (i k j : ℕ) → IsEntry rows i k j → HasEntry i k j
  first-entry i k j e =
      let h : i < length rows = entry-within i k j e in
      let g : block i < length rows = first-within i h in
      let row : List ℕ = get_or rows (block i) [] in
      let of : slice_get rows (block i) ≡ Some row = slice_get-get_or rows (block i) [] g in
      let tops_same : at_node tops (block i) ≡ at_node tops i = r.partition.finer (block i) i g h (itself i h) in
      let l : length row ≡ length e.row = even (block i) i row e.row of e.of tops_same in
      let k_less : k < length e.row = slice_get_within e.row k j e.to in
      let to : slice_get row k ≡ Some (get_or row k 0) = slice_get-get_or row k 0 (omega (arith, l, k_less)) in
      let entry : IsEntry rows (block i) k (get_or row k 0) = record { row = row; of = of; to = to } in
      record { other = get_or row k 0; entry = entry; same = r.agree (block i) i k (get_or row k 0) j (itself i h) entry e }

  -- an entry is an edge between blocks, and an edge is an entry
  among-at : (i : ℕ) → i < length rows → slice_get among i ≡ Some (map block (get_or rows i []))
  among-at i h = slice_get-get_or among i [] (let s : length among ≡ length rows = a.size in omega (arith, h, s)) ∙ ap Some (a.row i h)

  entry-edge : (i k j : ℕ) → IsEntry rows i k j → IsEdge among i (block j)
  entry-edge i k j e = record {
    row = map block (get_or rows i []);
    place = k;
    of = among-at i (entry-within i k j e);
    to = slice_get-map block (get_or rows i []) k ∙ ap (option_map block) (ap (λ (xs : List ℕ). slice_get xs k) (get_or_from_slice_get rows i e.row [] e.of) ∙ e.to);
  }

  record IsBlockEdge (i j : ℕ) : Type 0 where
    place : ℕ
    node : ℕ
    entry : IsEntry rows i place node
    to : block node ≡ j

  edge-entry : (i j : ℕ) → IsEdge among i j → IsBlockEdge i j
  edge-entry i j e =
      let l : i < length among = slice_get_within among i e.row e.of in
      let h : i < length rows = (let s : length among ≡ length rows = a.size in omega (arith, l, s)) in
      let row : List ℕ = get_or rows i [] in
      let same : e.row ≡ map block row = (let o : Some e.row ≡ Some (map block row) = sym e.of ∙ among-at i h in cc) in
      let at : option_map block (slice_get row e.place) ≡ Some j = sym (slice_get-map block row e.place) ∙ ap (λ (xs : List ℕ). slice_get xs e.place) (sym same) ∙ e.to in
      from row (slice_get-get_or rows i [] h) (slice_get row e.place) refl at
    where
      from : (row : List ℕ) → slice_get rows i ≡ Some row → (o : Option ℕ) → slice_get row e.place ≡ o → option_map block o ≡ Some j → IsBlockEdge i j
      from row of (Some n) q z = record { place = e.place; node = n; entry = record { row = row; of = of; to = q }; to = (let o : Some (block n) ≡ Some j = z in cc) }
      from row of None q z = absurd cc

  module _ (terms : List Tree) (many : length terms ≡ length rows) where
    abbrev g : Graph
    g = record { terms = terms; children = rows }

    entry-of : (i k j : ℕ) → IsChild g i k j → IsEntry rows i k j
    entry-of i k j c = record { row = c.0; of = c.1; to = c.2 }

    child-of : (i k j : ℕ) → IsEntry rows i k j → IsChild g i k j
    child-of i k j e = (e.row, e.of, e.to)

    stands-within : (i : ℕ) (t : Tree) → Stands g i t → i < length rows
    stands-within i t p = let l : i < length terms = slice_get_within terms i t p in omega (arith, l, many)

    differ : {i j : ℕ} → Differ rows tops i j → built.Differ g tops i j
    differ (by_start d) = built.by_top d
    differ (by_entry {i = i} {j = j} {p = p} {q = q} k x y d) = built.by_child k (child-of i k p x) (child-of j k q y) (differ d)

    coarsest : IsCoarsest g tops blocks
    coarsest = record {
      top = λ i j s t p q e. r.partition.finer i j (stands-within i s p) (stands-within j t q) e;
      children = λ i j k p q s t x y e c d. r.agree i j k p q e (entry-of i k p c) (entry-of j k q d);
      differ = λ i j s t p q d. differ (r.partition.differ i j (stands-within i s p) (stands-within j t q) d);
    }

    -- a way between blocks passes through the graph
    step : (i j : ℕ) → i < length rows → IsBlockEdge i j → (t : Tree) × Stands g i t
    step i j h e = (get_or terms i (some_term), slice_get-get_or terms i some_term (omega (arith, h, many)))
      where
        some_term : Tree
        some_term = symbol 0 none

    passes : (i j : ℕ) → block i ≡ i → Leads among i j → Passes g block i j × (block j ≡ j)
    passes i j s (by_edge e) =
        let b : IsBlockEdge i j = edge-entry i j e in
        let h : i < length rows = entry-within i b.place b.node b.entry in
        let t : (t : Tree) × Stands g i t = step i j h b in
        let w : Passes g block (block i) (block b.node) = one_step b.place t.1 (child-of i b.place b.node b.entry) in
        (subst (λ (y : ℕ). Passes g block i y) b.to (subst (λ (x : ℕ). Passes g block x (block b.node)) s w), ap block (sym b.to) ∙ itself b.node (within i b.place b.node b.entry) ∙ b.to)
    passes i j s (onward {j = m} l e) =
        let v : Passes g block i m × (block m ≡ m) = passes i m s l in
        let b : IsBlockEdge m j = edge-entry m j e in
        let h : m < length rows = entry-within m b.place b.node b.entry in
        let t : (t : Tree) × Stands g m t = step m j h b in
        let w : Passes g block i (block b.node) = and_on (subst (λ (y : ℕ). Passes g block i y) (sym v.1) v.0) b.place t.1 (child-of m b.place b.node b.entry) in
        (subst (λ (y : ℕ). Passes g block i y) b.to w, ap block (sym b.to) ∙ itself b.node (within m b.place b.node b.entry) ∙ b.to)

    certified : (c : Marks) → AreRanked among (rank_of c) (is_cyclic c) → IsCertified g block (rank_of c) (is_cyclic c)
    certified c k = record {
      down = λ i p j x. let e : HasEntry i p j = first-entry i p j (entry-of i p j x) in subst (λ (y : ℕ). rank_of c y ≤ rank_of c (block i)) e.same (k.down (block i) (block e.other) (entry-edge (block i) p e.other e.entry));
      strict = λ i p j m x. let e : HasEntry i p j = first-entry i p j (entry-of i p j x) in subst (λ (y : ℕ). rank_of c y < rank_of c (block i)) e.same (k.strict (block i) (block e.other) m (entry-edge (block i) p e.other e.entry));
      back = λ i t p m.
          let h : i < length rows = stands-within i t p in
          let l : block i < length among = (let s : length among ≡ length rows = a.size in let f : block i < length rows = first-within i h in omega (arith, s, f)) in
          (passes (block i) (block i) (itself i h) (k.back (block i) l m)).0;
    }

  pub classed : (c : Marks) → AreRanked among (rank_of c) (is_cyclic c) → AreClasses rows tops (record { blocks = blocks; marks = c })
  classed c k = record {
    size = size;
    first = itself;
    coarsest = coarsest;
    certified = λ terms many. certified terms many c k;
  }

  pub among-within : edges.AreWithin among
  among-within i j e =
      let b : IsBlockEdge i j = edge-entry i j e in
      let l : block b.node < length rows = first-within b.node (within i b.place b.node b.entry) in
      let s : length among ≡ length rows = a.size in
      let t : block b.node ≡ j = b.to in omega (arith, l, s, t)
