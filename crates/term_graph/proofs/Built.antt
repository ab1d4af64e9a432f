-- A graph whose nodes are ends and whose rows are their arguments is built along these ends.
use Rattle.std.proofs.Common.{◌≡◌, ℕ, ◌<◌, List, [], length, Option, Some, None, refl, sym, ◌∙◌, ap, subst, arith}
use Rattle.std.specs.Prelude.{slice_get, get_or, option_map}
use Rattle.std.proofs.lemmas.Option.{slice_get_within, slice_get-get_or, slice_get-map}
use Rattle.akl_terms.specs.declared.term.Node.{Node}
use Rattle.akl_terms.specs.declared.term.Seen.{Seen}
use Rattle.akl_terms.specs.declared.term.Seen.TheVariants.{Free}
use Rattle.akl_terms.specs.declared.term.Term.TheVariants.{Mol}
use Rattle.akl_terms.specs.Tree.{Tree, Trees, symbol, arguments, list_of}
use Rattle.akl_terms.specs.Template.{Template, tree, trees_from, IsKnown}
use Rattle.akl_terms.proofs.Unfolding.{length-trees_from, get-trees_from}
use Rattle.answer_text.specs.Graph.{Graph, Stands, IsChild}
use Rattle.answer_text.specs.BuiltGraph.{IsBuilt, BeginAlike}
use Rattle.term_graph.specs.Building.{seen_tree, BeginsSo, IsEndAt, IsRowOf, IsTermGraph, argument_of, count_of}
use Rattle.term_graph.specs.Built.{graph_of, TellBeginnings, IsBuiltAlong}

-- the arguments of what begins so
pub argument-at : (nodes : List Node) (s : Seen) (k : ℕ) → k < count_of s → slice_get (arguments (seen_tree nodes s)) k ≡ Some (argument_of nodes s k)
argument-at nodes (Free x) k l = absurd (omega (arith, l))
argument-at nodes (Seen.Int z) k l = absurd (omega (arith, l))
argument-at nodes (Seen.Port p) k l = absurd (omega (arith, l))
argument-at nodes (Seen.Struct s i n f) k l = get-trees_from (λ m. tree nodes (Mol m f)) i n k l

module _ (t : Template) (go : Tree → Tree) (seens : List Seen) (rows : List (List ℕ)) (r : IsTermGraph t go seens rows) where
  abbrev g : Graph
  g = graph_of t seens rows

  record Begins (i : ℕ) (x : Tree) : Type 0 where
    seen : Seen
    at : BeginsSo seens i seen
    is : seen_tree t.nodes seen ≡ x

  begins : (i : ℕ) (x : Tree) → Stands g i x → Begins i x
  begins i x p = from (slice_get seens i) refl (sym (slice_get-map (seen_tree t.nodes) seens i) ∙ p)
    where
      from : (o : Option Seen) → slice_get seens i ≡ o → option_map (seen_tree t.nodes) o ≡ Some x → Begins i x
      from (Some s) e q = record { seen = s; at = e; is = (let z : Some (seen_tree t.nodes s) ≡ Some x = q in cc) }
      from None e q = absurd cc

  stands : (j : ℕ) (u : Tree) → IsEndAt t go seens j u → Stands g j (go u)
  stands j u e = slice_get-map (seen_tree t.nodes) seens j ∙ ap (option_map (seen_tree t.nodes)) e.begins ∙ ap Some e.is

  argument-less : (s : Seen) (k : ℕ) (a : Tree) → slice_get (arguments (seen_tree t.nodes s)) k ≡ Some a → k < count_of s
  argument-less (Free x) k a e = absurd cc
  argument-less (Seen.Int z) k a e = absurd cc
  argument-less (Seen.Port p) k a e = absurd cc
  argument-less (Seen.Struct s i n f) k a e =
      let l : k < length (list_of (trees_from (λ m. tree t.nodes (Mol m f)) i n)) = slice_get_within (list_of (trees_from (λ m. tree t.nodes (Mol m f)) i n)) k a e in
      let z : length (list_of (trees_from (λ m. tree t.nodes (Mol m f)) i n)) ≡ n = length-trees_from (λ m. tree t.nodes (Mol m f)) i n in omega (arith, l, z)

  argument : (i k : ℕ) (x a : Tree) → Stands g i x → slice_get (arguments x) k ≡ Some a → (j : ℕ) × IsChild g i k j × Stands g j (go a)
  argument i k x a p q =
      let b : Begins i x = begins i x p in
      let q' : slice_get (arguments (seen_tree t.nodes b.seen)) k ≡ Some a = ap (λ (y : Tree). slice_get (arguments y) k) b.is ∙ q in
      let l : k < count_of b.seen = argument-less b.seen k a q' in
      let same : argument_of t.nodes b.seen k ≡ a = (let z : Some (argument_of t.nodes b.seen k) ≡ Some a = sym (argument-at t.nodes b.seen k l) ∙ q' in cc) in
      let h : i < length seens = slice_get_within seens i b.seen b.at in
      let size : length rows ≡ length seens = r.size in
      let row : List ℕ = get_or rows i [] in
      let of : slice_get rows i ≡ Some row = slice_get-get_or rows i [] (omega (arith, h, size)) in
      let each : IsRowOf t go seens b.seen row = r.row i b.seen row b.at of in
      let many : length row ≡ count_of b.seen = each.size in
      let to : slice_get row k ≡ Some (get_or row k 0) = slice_get-get_or row k 0 (omega (arith, l, many)) in
      (get_or row k 0, (row, of, to), subst (λ (y : Tree). Stands g (get_or row k 0) (go y)) same (stands (get_or row k 0) (argument_of t.nodes b.seen k) (each.each k (get_or row k 0) to)))

  child : (i k j : ℕ) (x : Tree) → Stands g i x → IsChild g i k j → (a : Tree) × (slice_get (arguments x) k ≡ Some a) × Stands g j (go a)
  child i k j x p c =
      let b : Begins i x = begins i x p in
      let each : IsRowOf t go seens b.seen c.0 = r.row i b.seen c.0 b.at c.1 in
      let many : length c.0 ≡ count_of b.seen = each.size in
      let l : k < length c.0 = slice_get_within c.0 k j c.2 in
      (argument_of t.nodes b.seen k, ap (λ (y : Tree). slice_get (arguments y) k) (sym b.is) ∙ argument-at t.nodes b.seen k (omega (arith, l, many)), stands j (argument_of t.nodes b.seen k) (each.each k j c.2))

  end : (i : ℕ) (x : Tree) → Stands g i x → (s : Tree) × (x ≡ go s)
  end i x p =
      let b : Begins i x = begins i x p in
      let z : (u : Tree) × (seen_tree t.nodes b.seen ≡ go u) = r.end i b.seen b.at in (z.0, sym b.is ∙ z.1)

  alike : {x y u v : Tree} → x ≡ u → y ≡ v → BeginAlike x y → BeginAlike u v
  alike {y = y} {u = u} e f h = subst (λ (w : Tree). BeginAlike u w) f (subst (λ (w : Tree). BeginAlike w y) e h)

  built : (tops : List ℕ) → TellBeginnings t seens tops → IsBuilt go g tops
  built tops b = record {
    end = end;
    argument = argument;
    child = child;
    one = λ i j x y p q e. let a : Begins i x = begins i x p in let c : Begins j y = begins j y q in alike a.is c.is (b.one i j a.seen c.seen a.at c.at e);
    other = λ i j x y p q h. let a : Begins i x = begins i x p in let c : Begins j y = begins j y q in b.other i j a.seen c.seen a.at c.at (alike (sym a.is) (sym c.is) h);
  }

  named : (s : Seen) (f : ℕ) (ts : Trees) → IsKnown t s → seen_tree t.nodes s ≡ symbol f ts → (name : List ℕ) × (slice_get t.symbols f ≡ Some name)
  named (Free x) f ts k e = absurd cc
  named (Seen.Int z) f ts k e = absurd cc
  named (Seen.Port p) f ts k e = absurd cc
  named (Seen.Struct s i n h) f ts k e = let o : s ≡ f = cc in (get_or t.symbols f [], slice_get-get_or t.symbols f [] (subst (λ (m : ℕ). m < length t.symbols) o k))

  pub built-along : IsBuiltAlong t go seens rows
  built-along = record {
    built = built;
    names = record { name = λ i f ts p. let b : Begins i (symbol f ts) = begins i (symbol f ts) p in named b.seen f ts (r.known i b.seen b.at) b.is };
  }
