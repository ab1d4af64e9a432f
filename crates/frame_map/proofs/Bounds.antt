-- A tree that fits in so many binary digits has no value beyond them.
use Rattle.std.proofs.Common.{◌≡◌, ℕ, ◌-◌, ◌/◌, ◌%◌, ◌^◌, ◌<◌, ◌≤◌, true, List, length, Option, None, refl, sym, ap, subst, ◌∙◌, Vec, Global, arith}
use Rattle.std.proofs.lemmas.Bool.{ltb-true, leb-true, lt-ltb, le-leb, and_parts, and_from}
use Rattle.std.specs.Arc.{arc_value}
use Rattle.std.specs.declared.sync.Arc.{Arc}
use Rattle.name_map.specs.Pages.{in_slot}
use Rattle.name_map.proofs.Within.{within_past}
use Rattle.frame_map.specs.declared.tree.Tree.{Tree}
use Rattle.frame_map.specs.declared.tree.Tree.TheVariants as tree
use Rattle.frame_map.specs.declared.tree.Tree.TheOpen.{Tree-F}
use Rattle.frame_map.specs.declared.tree.Tree.TheFolds.{fold_out-Tree}
use Rattle.frame_map.specs.Contents.{Contents, of_slots, of_children, tree_step, contents, all_contents, AllFit, FitsIn}
use Rattle.frame_map.proofs.Parts.{first_beyond}
use Rattle.frame_map.proofs.Trees.{contents_leaf, contents_inner}

-- the children of a node of `width` binary digits
pub record HasChildren {V : Type 0} (below width : ℕ) (all : List (Contents V)) : Type 0 where
  pub less : below < width
  pub most : length all ≤ 2 ^ (width - below)
  pub fit : AllFit below all

module _ {V : Type 0} where
  pub fits_children : (below w : ℕ) (all : List (Contents V)) → (of_children below all).fits w ≡ true → HasChildren below w all
  fits_children below w all e =
      let a = and_parts _ _ e in
      let b = and_parts _ _ a.1 in
      record { less = ltb-true below w a.0; most = leb-true (length all) (2 ^ (w - below)) b.0; fit = b.1 }

  pub children_fit : (below w : ℕ) (all : List (Contents V)) → HasChildren below w all → (of_children below all).fits w ≡ true
  children_fit below w all h = and_from _ _ (lt-ltb below w h.less) (and_from _ _ (le-leb (length all) (2 ^ (w - below)) h.most) h.fit)

  HasBounds : Contents V → Type 0
  HasBounds c = (w n : ℕ) → c.fits w ≡ true → 2 ^ w ≤ n → c.value n ≡ None

  step_beyond : (x : Tree-F V (Contents V)) (w n : ℕ) → (tree_step x).fits w ≡ true → 2 ^ w ≤ n → (tree_step x).value n ≡ None
  step_beyond Tree-F.Empty w n e h = refl
  step_beyond (Tree-F.Leaf a) w n e h = let most = leb-true (length (arc_value a).items) (2 ^ w) e in within_past in_slot (arc_value a).items n (omega arith)
  step_beyond (Tree-F.Inner below a) w n e h =
      let has = fits_children below w (arc_value a).items e in
      let less = has.less in
      within_past (λ (c : Contents V). c.value (n % 2 ^ below)) (arc_value a).items (n / 2 ^ below) (first_beyond n w below (length (arc_value a).items) (omega arith) has.most h)

  pub beyond : (t : Tree V) (w n : ℕ) → FitsIn w t → 2 ^ w ≤ n → (contents t).value n ≡ None
  beyond t w n e h = subst (λ (c : Contents V). c.fits w ≡ true → c.value n ≡ None) (sym (fold_out-Tree V (Contents V) tree_step t)) (λ fits. step_beyond _ w n fits h) e

  module _ (t : Tree V) (below : ℕ) (a : Arc (Vec (Tree V) Global) Global) (v : Vec (Tree V) Global) (is : t ≡ tree.Inner below a) (at : v ≡ arc_value a) where
    pub inner_contents : contents t ≡ of_children below (all_contents v.items)
    inner_contents = ap contents is ∙ contents_inner below a ∙ ap (λ (u : Vec (Tree V) Global). of_children below (all_contents u.items)) (sym at)

    pub has_children : (w : ℕ) → FitsIn w t → HasChildren below w (all_contents v.items)
    has_children w e = fits_children below w (all_contents v.items) (ap (λ (c : Contents V). c.fits w) (sym inner_contents) ∙ e)

  module _ (t : Tree V) (a : Arc (Vec (Option V) Global) Global) (v : Vec (Option V) Global) (is : t ≡ tree.Leaf a) (at : v ≡ arc_value a) where
    pub leaf_contents : contents t ≡ of_slots v.items
    leaf_contents = ap contents is ∙ contents_leaf a ∙ ap (λ (u : Vec (Option V) Global). of_slots u.items) (sym at)

    pub leaf_most : (w : ℕ) → FitsIn w t → length v.items ≤ 2 ^ w
    leaf_most w e = leb-true (length v.items) (2 ^ w) (ap (λ (c : Contents V). c.fits w) (sym leaf_contents) ∙ e)
