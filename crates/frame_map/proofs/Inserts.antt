-- What becomes of a node where a number of one of its children gets another value.
use Rattle.std.proofs.Common.{◌≡◌, ℕ, ◌+◌, ◌/◌, ◌%◌, ◌^◌, ◌<◌, ◌≤◌, max, List, length, get_or, set, Option, Some, refl, sym, ap, subst, ◌∙◌, Vec, Global, arith}
use Rattle.std.proofs.lemmas.Bool.{leb-true, le-leb}
use Rattle.std.proofs.lemmas.List.{get_or_read, map-set}
use Rattle.std.specs.Arc.{arc_value}
use Rattle.std.specs.declared.sync.Arc.{Arc}
use Rattle.frame_map.specs.declared.tree.Tree.{Tree}
use Rattle.frame_map.specs.declared.tree.Tree.TheVariants as tree
use Rattle.frame_map.specs.Contents.{Contents, of_slots, of_children, contents, all_contents, AllFit, FitsIn, Same, Puts, PutsMade}
use Rattle.frame_map.proofs.Bounds.{HasChildren, fits_children, children_fit}
use Rattle.frame_map.proofs.Changes.{puts_by, same_by}
use Rattle.frame_map.proofs.Children.{all_fit_at, child_kept, child_put, child_value, contents_at, children_count}
use Rattle.frame_map.proofs.Nodes.{grown, child_set}
use Rattle.frame_map.proofs.Trees.{contents_leaf, contents_inner}

module _ {V : Type 0} where
  -- t0 became the leaf t1, whose slots v are the new ones, or a copy of them
  module _ (t0 t1 : Tree V) (a : Arc (Vec (Option V) Global) Global) (is : t1 ≡ tree.Leaf a) (same : Same (contents t0) (contents t1)) (slots : List (Option V)) (owned : slots ≡ (arc_value a).items) (b : Arc (Vec (Option V) Global) Global) (new : List (Option V)) (holds : (arc_value b).items ≡ new) where
    slots_before : of_slots slots ≡ contents t1
    slots_before = ap of_slots owned ∙ sym (ap contents is ∙ contents_leaf a)

    slots_after : contents (tree.Leaf b) ≡ of_slots new
    slots_after = contents_leaf b ∙ ap of_slots holds

    leaf_put : (k : ℕ) (o : Option V) → Puts (of_slots slots) (of_slots new) k o → Puts (contents t0) (contents (tree.Leaf b)) k o
    leaf_put = puts_by (contents t0) (contents t1) (of_slots slots) (of_slots new) (contents (tree.Leaf b)) same slots_before slots_after

    pub leaf_made : (k : ℕ) (makes : Option V → V → Type 0) → PutsMade makes (of_slots slots) (of_slots new) k → PutsMade makes (contents t0) (contents (tree.Leaf b)) k
    leaf_made k makes h = record {
      value = h.value;
      puts = leaf_put k (Some h.value) h.puts;
      made = subst (λ (o : Option V). makes o h.value) (ap (λ (c : Contents V). c.value k) slots_before ∙ same k) h.made;
    }

    pub leaf_fits : (width k : ℕ) → FitsIn width t1 → k < 2 ^ width → length new ≤ max (length slots) (k + 1) → FitsIn width (tree.Leaf b)
    leaf_fits width k fits h most =
        let was = leb-true (length slots) (2 ^ width) (ap (λ (c : Contents V). c.fits width) slots_before ∙ fits) in
        ap (λ (c : Contents V). c.fits width) slots_after ∙ le-leb (length new) (2 ^ width) (omega arith)

    pub leaf_same : Same (of_slots slots) (of_slots new) → Same (contents t0) (contents (tree.Leaf b))
    leaf_same = same_by (contents t0) (contents t1) (of_slots slots) (of_slots new) (contents (tree.Leaf b)) same slots_before slots_after

  -- t0 became the node t1, whose children are these, or copies of them
  module _ (t0 t1 : Tree V) (below n : ℕ) (a : Arc (Vec (Tree V) Global) Global) (is : t1 ≡ tree.Inner below a) (width_is : n ≡ below) (same : Same (contents t0) (contents t1)) (children : List (Tree V)) (owned : all_contents children ≡ all_contents (arc_value a).items) where
    node : contents t1 ≡ of_children n (all_contents children)
    node = ap contents is ∙ contents_inner below a ∙ (λ i. of_children (sym width_is i) (sym owned i))

    node_same : Same (contents t0) (of_children n (all_contents children))
    node_same m = ap (λ (c : Contents V). c.value m) (sym node) ∙ same m

    node_has : (width : ℕ) → FitsIn width t1 → HasChildren n width (all_contents children)
    node_has width fits = fits_children n width (all_contents children) (ap (λ (c : Contents V). c.fits width) (sym node) ∙ fits)

    -- further children up to the first digit of a number that has its place
    pub more_has : (more : List (Tree V)) (width number index : ℕ) → FitsIn width t1 → index ≡ number / 2 ^ n → number < 2 ^ width → length more ≤ max (length children) (index + 1)
        → (AllFit n (all_contents children) → AllFit n (all_contents more)) → HasChildren n width (all_contents more)
    more_has more width number index fits digit h most fit =
        let has = node_has width fits in
        let before = children_count children in
        let after = children_count more in
        grown width n number index (all_contents children) (all_contents more) digit h has (omega arith) (fit has.fit)

    module _ (b : Arc (Vec (Tree V) Global) Global) (holds : all_contents (arc_value b).items ≡ all_contents children) where
      again : contents (tree.Inner n b) ≡ of_children n (all_contents children)
      again = contents_inner n b ∙ ap (of_children n) holds

      pub copied_same : Same (contents t0) (contents (tree.Inner n b))
      copied_same m = ap (λ (c : Contents V). c.value m) again ∙ node_same m

      pub copied_fits : (width : ℕ) → FitsIn width t1 → FitsIn width (tree.Inner n b)
      copied_fits width fits = ap (λ (c : Contents V). c.fits width) (again ∙ sym node) ∙ fits

    -- further children came
    module _ (more : List (Tree V)) (made : Same (of_children n (all_contents children)) (of_children n (all_contents more))) where
      made_same : Same (contents t0) (of_children n (all_contents more))
      made_same m = made m ∙ node_same m

      module _ (b : Arc (Vec (Tree V) Global) Global) (holds : (arc_value b).items ≡ more) where
        pub longer_same : Same (contents t0) (contents (tree.Inner n b))
        longer_same m = ap (λ (c : Contents V). c.value m) (contents_inner n b ∙ ap (λ (ts : List (Tree V)). of_children n (all_contents ts)) holds) ∙ made_same m

        pub longer_fits : (width : ℕ) → HasChildren n width (all_contents more) → FitsIn width (tree.Inner n b)
        longer_fits width has = ap (λ (c : Contents V). c.fits width) (contents_inner n b ∙ ap (λ (ts : List (Tree V)). of_children n (all_contents ts)) holds) ∙ children_fit n width (all_contents more) has

      -- and one of them became another
      module _ (index : ℕ) (x y : Tree V) (h : index < length more) (child : x ≡ get_or more index x) where
        at : (d : Contents V) → contents x ≡ get_or (all_contents more) index d
        at = contents_at more index x h (get_or_read more index x h child)

        within : index < length (all_contents more)
        within = let count = children_count more in omega arith

        pub child_had : (width : ℕ) → HasChildren n width (all_contents more) → FitsIn n x
        child_had width has = all_fit_at n (all_contents more) index (contents x) has.fit within at

        module _ (b : Arc (Vec (Tree V) Global) Global) (holds : (arc_value b).items ≡ set more index y) where
          changed : contents (tree.Inner n b) ≡ of_children n (set (all_contents more) index (contents y))
          changed = contents_inner n b ∙ ap (λ (ts : List (Tree V)). of_children n (all_contents ts)) holds ∙ ap (of_children n) (map-set contents more index y)

          changed_put : (k r : ℕ) (o : Option V) → index ≡ k / 2 ^ n → r ≡ k % 2 ^ n → Puts (contents x) (contents y) r o → Puts (contents t0) (contents (tree.Inner n b)) k o
          changed_put k r o digit rest put =
              puts_by (contents t0) (of_children n (all_contents more)) (of_children n (all_contents more)) (of_children n (set (all_contents more) index (contents y))) (contents (tree.Inner n b)) made_same refl changed k o
              (child_put n (all_contents more) index (contents x) (contents y) within at k o digit (subst (λ (q : ℕ). Puts (contents x) (contents y) q o) rest put))

          pub changed_made : (k r : ℕ) (makes : Option V → V → Type 0) → index ≡ k / 2 ^ n → r ≡ k % 2 ^ n → PutsMade makes (contents x) (contents y) r → PutsMade makes (contents t0) (contents (tree.Inner n b)) k
          changed_made k r makes digit rest h = record {
            value = h.value;
            puts = changed_put k r (Some h.value) digit rest h.puts;
            made = subst (λ (o : Option V). makes o h.value) (ap (contents x).value rest ∙ child_value n (all_contents more) index (contents x) within at k digit ∙ made_same k) h.made;
          }

          pub changed_same : Same (contents x) (contents y) → Same (contents t0) (contents (tree.Inner n b))
          changed_same kept =
              same_by (contents t0) (of_children n (all_contents more)) (of_children n (all_contents more)) (of_children n (set (all_contents more) index (contents y))) (contents (tree.Inner n b)) made_same refl changed
              (child_kept n (all_contents more) index (contents x) (contents y) within at kept)

          pub changed_fits : (width : ℕ) → HasChildren n width (all_contents more) → FitsIn n y → FitsIn width (tree.Inner n b)
          changed_fits width has fits = ap (λ (c : Contents V). c.fits width) changed ∙ children_fit n width (set (all_contents more) index (contents y)) (child_set width n index (all_contents more) (contents y) has fits)
