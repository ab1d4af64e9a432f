-- How many nodes the longest way down meets, which each child has fewer of.
use Rattle.std.proofs.Common.{◌≡◌, ℕ, zero, suc, ◌<◌, ◌≤◌, max, List, [], ◌∷◌, length, map, get_or, sym, ap, ◌∙◌, Vec, Global, arith}
use Rattle.std.proofs.lemmas.List.{length-map, get_or-map}
use Rattle.std.specs.Arc.{arc_value}
use Rattle.std.specs.declared.sync.Arc.{Arc}
use Rattle.frame_map.specs.declared.tree.Tree.{Tree}
use Rattle.frame_map.specs.declared.tree.Tree.TheVariants as tree
use Rattle.frame_map.specs.declared.tree.Tree.TheOpen.{Tree-F}
use Rattle.frame_map.specs.declared.tree.Tree.TheOpen as open_trees
use Rattle.frame_map.specs.declared.tree.Tree.TheFolds.{fold-Tree, fold-roll-Tree}

abbrev greatest : List ℕ → ℕ
greatest [] = 0
greatest (n ∷ ns) = max n (greatest ns)

at_most_greatest : (ns : List ℕ) (i n : ℕ) → i < length ns → n ≡ get_or ns i n → n ≤ greatest ns
at_most_greatest [] i n h is = absurd (omega arith)
at_most_greatest (m ∷ ns) zero n h is = omega arith
at_most_greatest (m ∷ ns) (suc i) n h is = let later = at_most_greatest ns i n (omega arith) is in omega arith

module _ {V : Type 0} where
  abbrev height_step : Tree-F V ℕ → ℕ
  height_step Tree-F.Empty = 0
  height_step (Tree-F.Leaf slots) = 0
  height_step (Tree-F.Inner below children) = suc (greatest (arc_value children).items)

  abbrev pub height : Tree V → ℕ
  height = fold-Tree V ℕ height_step

  module _ (t : Tree V) (below : ℕ) (a : Arc (Vec (Tree V) Global) Global) (v : Vec (Tree V) Global) (is : t ≡ tree.Inner below a) (at : v ≡ arc_value a) where
    height_inner : height t ≡ suc (greatest (map height v.items))
    height_inner = ap height (is ∙ sym (tree.rolls-Inner below a)) ∙ fold-roll-Tree V ℕ height_step (open_trees.Inner below a) ∙ ap (λ (u : Vec (Tree V) Global). suc (greatest (map height u.items))) (sym at)

    pub child_lower : (i : ℕ) (x : Tree V) → i < length v.items → ((d : Tree V) → x ≡ get_or v.items i d) → height x < height t
    child_lower i x h child =
        let whole = height_inner in
        let count = length-map v.items height in
        let most = at_most_greatest (map height v.items) i (height x) (omega arith) (ap height (child x) ∙ sym (get_or-map height v.items i x (height x) h)) in
        omega arith
