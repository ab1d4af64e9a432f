-- What the variants of a tree have.
use Rattle.std.proofs.Common.{◌≡◌, ℕ, Option, sym, ap, ◌∙◌, Vec, Global}
use Rattle.std.specs.Arc.{arc_value}
use Rattle.std.specs.declared.sync.Arc.{Arc}
use Rattle.frame_map.specs.declared.tree.Tree.{Tree}
use Rattle.frame_map.specs.declared.tree.Tree.TheVariants as tree
use Rattle.frame_map.specs.declared.tree.Tree.TheOpen as open_trees
use Rattle.frame_map.specs.declared.tree.Tree.TheViews.{out-Tree, out-roll-Tree}
use Rattle.frame_map.specs.declared.tree.Tree.TheFolds.{fold-roll-Tree}
use Rattle.frame_map.specs.Contents.{Contents, nothing, of_slots, of_children, tree_step, contents, all_contents}

module _ {V : Type 0} where
  pub contents_empty : contents {V = V} tree.Empty ≡ nothing
  contents_empty = ap contents (sym tree.rolls-Empty) ∙ fold-roll-Tree V (Contents V) tree_step open_trees.Empty

  pub contents_leaf : (a : Arc (Vec (Option V) Global) Global) → contents (tree.Leaf a) ≡ of_slots (arc_value a).items
  contents_leaf a = ap contents (sym (tree.rolls-Leaf a)) ∙ fold-roll-Tree V (Contents V) tree_step (open_trees.Leaf a)

  pub contents_inner : (below : ℕ) (a : Arc (Vec (Tree V) Global) Global) → contents (tree.Inner below a) ≡ of_children below (all_contents (arc_value a).items)
  contents_inner below a = ap contents (sym (tree.rolls-Inner below a)) ∙ fold-roll-Tree V (Contents V) tree_step (open_trees.Inner below a)

  -- a leaf is one when it is opened
  pub out_leaf : (a : Arc (Vec (Option V) Global) Global) → out-Tree V (tree.Leaf a) ≡ open_trees.Leaf a
  out_leaf a = ap (λ (t : Tree V). out-Tree V t) (sym (tree.rolls-Leaf a)) ∙ out-roll-Tree V (open_trees.Leaf a)
