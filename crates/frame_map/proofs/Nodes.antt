-- New nodes, and children that come to a node.
use Rattle.std.proofs.Common.{◌≡◌, ℕ, ◌+◌, ◌-◌, ◌*◌, ◌/◌, ◌%◌, ◌^◌, ◌<◌, ◌≤◌, max, Bool, true, false, List, [], ◌∷◌, length, length-set, set, Option, None, refl, sym, ap, ◌∙◌, Vec, Global, arith}
use Rattle.std.proofs.lemmas.Bool.{ltb-true, ltb-false, le-leb, and_from}
use Rattle.std.proofs.lemmas.Nat.{pow_pos, le-div}
use Rattle.std.specs.Prelude.{ltb}
use Rattle.std.specs.Arc.{arc_value}
use Rattle.std.specs.declared.sync.Arc.{Arc}
use Rattle.name_map.specs.Pages.{within}
use Rattle.name_map.proofs.Within.{within_past}
use Rattle.frame_map.specs.declared.tree.Tree.{Tree}
use Rattle.frame_map.specs.declared.tree.Tree.TheVariants as tree
use Rattle.frame_map.specs.Contents.{Contents, of_slots, of_children, contents, all_contents, AllFit, FitsIn, Same}
use Rattle.frame_map.proofs.Bounds.{HasChildren, children_fit, beyond}
use Rattle.frame_map.proofs.Children.{all_fit_set}
use Rattle.frame_map.proofs.Parts.{first_below, digit_at, rest_at}
use Rattle.frame_map.proofs.Trees.{contents_leaf, contents_inner}

module _ {V : Type 0} where
  -- a node above contents alone has their values, where they have none that it doesn't reach
  raised_by : (x : Contents V) (w n : ℕ) → (2 ^ w ≤ n → x.value n ≡ None) → (b : Bool) → ltb n (2 ^ w) ≡ b → within (λ (c : Contents V). c.value (n % 2 ^ w)) (x ∷ []) (n / 2 ^ w) ≡ x.value n
  raised_by x w n none true e =
      let below = ltb-true n (2 ^ w) e in
      let low : 0 * 2 ^ w ≤ n = omega arith in
      let high : n < 0 * 2 ^ w + 2 ^ w = omega arith in
      let whole : n - 0 * 2 ^ w ≡ n = omega arith in
      ap (λ (i : ℕ). within (λ (c : Contents V). c.value (n % 2 ^ w)) (x ∷ []) i) (digit_at 0 w n low high) ∙ ap x.value (rest_at 0 w n low high ∙ whole)
  raised_by x w n none false e =
      let above = ltb-false n (2 ^ w) e in
      within_past (λ (c : Contents V). c.value (n % 2 ^ w)) (x ∷ []) (n / 2 ^ w) (le-div 1 n (2 ^ w) (pow_pos w) (omega arith)) ∙ sym (none above)

  module _ (t u : Tree V) (w : ℕ) (a : Arc (Vec (Tree V) Global) Global) (one : all_contents (arc_value a).items ≡ contents u ∷ []) (same : contents u ≡ contents t) (fits : FitsIn w t) where
    node_above : contents (tree.Inner w a) ≡ of_children w (contents t ∷ [])
    node_above = contents_inner w a ∙ ap (of_children w) (one ∙ ap (λ (c : Contents V). c ∷ []) same)

    pub raised_same : Same (contents t) (contents (tree.Inner w a))
    raised_same n = ap (λ (c : Contents V). c.value n) node_above ∙ raised_by (contents t) w n (beyond t w n fits) (ltb n (2 ^ w)) refl

    pub raised_fits : (m : ℕ) → w < m → FitsIn m (tree.Inner w a)
    raised_fits m h =
        let positive = pow_pos (m - w) in
        ap (λ (c : Contents V). c.fits m) node_above ∙ children_fit w m (contents t ∷ []) (record { less = h; most = omega arith; fit = and_from _ _ fits refl })

  -- nodes without slots or children
  module _ (a : Arc (Vec (Option V) Global) Global) (none : (arc_value a).items ≡ []) where
    new_leaf : contents (tree.Leaf a) ≡ of_slots []
    new_leaf = contents_leaf a ∙ ap of_slots none

    pub leaf_none : (n : ℕ) → (contents (tree.Leaf a)).value n ≡ None
    leaf_none n = ap (λ (c : Contents V). c.value n) new_leaf

    pub leaf_fits : (w : ℕ) → FitsIn w (tree.Leaf a)
    leaf_fits w = ap (λ (c : Contents V). c.fits w) new_leaf ∙ le-leb 0 (2 ^ w) (omega arith)

    pub leaf_is_node : (contents (tree.Leaf a)).has_node ≡ true
    leaf_is_node = ap (λ (c : Contents V). c.has_node) new_leaf

  module _ (below : ℕ) (a : Arc (Vec (Tree V) Global) Global) (none : (arc_value a).items ≡ []) where
    new_inner : contents (tree.Inner below a) ≡ of_children below []
    new_inner = contents_inner below a ∙ ap (λ (ts : List (Tree V)). of_children below (all_contents ts)) none

    pub inner_none : (n : ℕ) → (contents (tree.Inner below a)).value n ≡ None
    inner_none n = ap (λ (c : Contents V). c.value n) new_inner

    pub inner_fits : (w : ℕ) → below < w → FitsIn w (tree.Inner below a)
    inner_fits w h = ap (λ (c : Contents V). c.fits w) new_inner ∙ children_fit {V = V} below w [] (record { less = h; most = omega arith; fit = refl })

    pub inner_is_node : (contents (tree.Inner below a)).has_node ≡ true
    inner_is_node = ap (λ (c : Contents V). c.has_node) new_inner

  -- children up to the first digit of a number that has its place
  pub grown : (width below number index : ℕ) (old new : List (Contents V)) → index ≡ number / 2 ^ below → number < 2 ^ width → HasChildren below width old → length new ≤ max (length old) (index + 1) → AllFit below new → HasChildren below width new
  grown width below number index old new digit h has most fit =
      let less = has.less in
      let was = has.most in
      let place = first_below number width below (omega arith) h in
      record { less = has.less; most = omega arith; fit = fit }

  -- another child at an index
  pub child_set : (width below index : ℕ) (all : List (Contents V)) (y : Contents V) → HasChildren below width all → y.fits below ≡ true → HasChildren below width (set all index y)
  child_set width below index all y has fits =
      let most = has.most in
      record { less = has.less; most = omega (arith, length-set all index y); fit = all_fit_set below all index y has.fit fits }
