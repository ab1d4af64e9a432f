-- What a change of one child makes of a node, and where a number's value is in it.
use Rattle.std.proofs.Common.{◌≡◌, ℕ, zero, suc, ◌+◌, ◌*◌, ◌/◌, ◌%◌, ◌^◌, ◌<◌, ◌≤◌, Bool, true, List, [], ◌∷◌, ◌++◌, length, get_or, set, Option, None, refl, sym, ap, ◌∙◌, Vec, Global, inl, inr, mod-eq_of_lt, arith}
use Rattle.std.proofs.lemmas.Bool.{and_parts, and_from, cases_lt}
use Rattle.std.proofs.lemmas.List.{length-map, get_or-map}
use Rattle.std.proofs.lemmas.Nat.{pow_pos, pow_below, mul-le}
use Rattle.std.specs.Prelude.{◌&&◌, if◌then◌else◌}
use Rattle.std.specs.Arc.{arc_value}
use Rattle.std.specs.declared.sync.Arc.{Arc}
use Rattle.name_map.specs.Pages.{within}
use Rattle.name_map.proofs.Within.{within_past, within_at, within_push, within_set, within_kept}
use Rattle.frame_map.specs.declared.tree.Tree.{Tree}
use Rattle.frame_map.specs.declared.tree.Tree.TheVariants as tree
use Rattle.frame_map.specs.Contents.{Contents, nothing, of_children, contents, all_contents, AllFit, FitsIn, IsTree, IsTreeFrom, Same, Puts}
use Rattle.frame_map.proofs.Bounds.{inner_contents, has_children}
use Rattle.frame_map.proofs.Parts.{same_digits, reach}
use lib.Dec.{eqb}

module _ {V : Type 0} where
  pub all_fit_at : (w : ℕ) (all : List (Contents V)) (i : ℕ) (x : Contents V) → AllFit w all → i < length all → ((d : Contents V) → x ≡ get_or all i d) → x.fits w ≡ true
  all_fit_at w [] i x fit h is = absurd (omega arith)
  all_fit_at w (y ∷ all) zero x fit h is = ap (λ (c : Contents V). c.fits w) (is x) ∙ (and_parts _ _ fit).0
  all_fit_at w (y ∷ all) (suc i) x fit h is = all_fit_at w all i x (and_parts _ _ fit).1 (omega arith) is

  pub all_fit_set : (w : ℕ) (all : List (Contents V)) (i : ℕ) (y : Contents V) → AllFit w all → y.fits w ≡ true → AllFit w (set all i y)
  all_fit_set w [] i y fit e = refl
  all_fit_set w (x ∷ all) zero y fit e = and_from _ _ e (and_parts _ _ fit).1
  all_fit_set w (x ∷ all) (suc i) y fit e = and_from _ _ (and_parts _ _ fit).0 (all_fit_set w all i y (and_parts _ _ fit).1 e)

  pub all_fit_push : (w : ℕ) (all : List (Contents V)) (y : Contents V) → AllFit w all → y.fits w ≡ true → AllFit w (all ++ y ∷ [])
  all_fit_push w [] y fit e = and_from _ _ e refl
  all_fit_push w (x ∷ all) y fit e = and_from _ _ (and_parts _ _ fit).0 (all_fit_push w all y (and_parts _ _ fit).1 e)

  -- one child more that has nothing
  pub children_push : (below : ℕ) (all : List (Contents V)) → Same (of_children below all) (of_children below (all ++ nothing ∷ []))
  children_push below all n = within_push (λ (c : Contents V). c.value (n % 2 ^ below)) all (n / 2 ^ below) nothing refl

  -- what the child at a number's first digit has for its other digits
  pub child_value : (below : ℕ) (all : List (Contents V)) (i : ℕ) (x : Contents V) → i < length all → ((d : Contents V) → x ≡ get_or all i d) → (k : ℕ) → i ≡ k / 2 ^ below → x.value (k % 2 ^ below) ≡ (of_children below all).value k
  child_value below all i x h is k digit =
      sym (within_at (λ (c : Contents V). c.value (k % 2 ^ below)) all i x h is) ∙ ap (λ (j : ℕ). within (λ (c : Contents V). c.value (k % 2 ^ below)) all j) digit

  module _ (below : ℕ) (all : List (Contents V)) (i : ℕ) (x y : Contents V) (h : i < length all) (is : (d : Contents V) → x ≡ get_or all i d) where
    pub child_kept : Same x y → Same (of_children below all) (of_children below (set all i y))
    child_kept same n = within_kept (λ (c : Contents V). c.value (n % 2 ^ below)) all i (n / 2 ^ below) x y h is (same (n % 2 ^ below))

    pub child_put : (k : ℕ) (o : Option V) → i ≡ k / 2 ^ below → Puts x y (k % 2 ^ below) o → Puts (of_children below all) (of_children below (set all i y)) k o
    child_put k o digit put n =
        let old : Option V = within (λ (c : Contents V). c.value (n % 2 ^ below)) all (n / 2 ^ below) in
        within_set (λ (c : Contents V). c.value (n % 2 ^ below)) all i (n / 2 ^ below) x y (eqb (n % 2 ^ below) (k % 2 ^ below)) o h is (put (n % 2 ^ below))
        ∙ (λ j. if (eqb (n / 2 ^ below) (digit j) && eqb (n % 2 ^ below) (k % 2 ^ below)) then o else old)
        ∙ ap (λ (t : Bool). if t then o else old) (same_digits n k below)

  -- the contents of the child at an index
  pub contents_at : (ts : List (Tree V)) (i : ℕ) (x : Tree V) → i < length ts → ((d : Tree V) → x ≡ get_or ts i d) → (e : Contents V) → contents x ≡ get_or (all_contents ts) i e
  contents_at ts i x h is e = ap contents (is x) ∙ sym (get_or-map contents ts i x e h)

  pub children_count : (ts : List (Tree V)) → length (all_contents ts) ≡ length ts
  children_count ts = length-map ts contents

  module _ (t : Tree V) (below : ℕ) (a : Arc (Vec (Tree V) Global) Global) (v : Vec (Tree V) Global) (is : t ≡ tree.Inner below a) (at : v ≡ arc_value a) where
    module _ (k i : ℕ) (digit : i ≡ k / 2 ^ below) where
      by_digit : (contents t).value k ≡ within (λ (c : Contents V). c.value (k % 2 ^ below)) (all_contents v.items) i
      by_digit = ap (λ (c : Contents V). c.value k) (inner_contents t below a v is at) ∙ ap (λ (j : ℕ). within (λ (c : Contents V). c.value (k % 2 ^ below)) (all_contents v.items) j) (sym digit)

      -- a number's value is that of its other digits in the child at its first
      pub value_in_child : (x : Tree V) → i < length v.items → ((d : Tree V) → x ≡ get_or v.items i d) → (contents t).value k ≡ (contents x).value (k % 2 ^ below)
      value_in_child x h child =
          let count = children_count v.items in
          by_digit ∙ within_at (λ (c : Contents V). c.value (k % 2 ^ below)) (all_contents v.items) i (contents x) (omega arith) (contents_at v.items i x h child)

      pub no_child : length v.items ≤ i → (contents t).value k ≡ None
      no_child h = let count = children_count v.items in by_digit ∙ within_past (λ (c : Contents V). c.value (k % 2 ^ below)) (all_contents v.items) i (omega arith)

    pub child_fits : (w i : ℕ) (x : Tree V) → FitsIn w t → i < length v.items → ((d : Tree V) → x ≡ get_or v.items i d) → FitsIn below x
    child_fits w i x e h child =
        let count = children_count v.items in
        all_fit_at below (all_contents v.items) i (contents x) (has_children t below a v is at w e).fit (omega arith) (contents_at v.items i x h child)

    -- a child is narrower than the node
    pub child_is_tree : (i : ℕ) (x : Tree V) → IsTree t → i < length v.items → ((d : Tree V) → x ≡ get_or v.items i d) → IsTree x
    child_is_tree i x w h child =
        let less = (has_children t below a v is at w.width w.fits).less in
        let most = w.most in
        record { width = below; most = omega arith; fits = child_fits w.width i x w.fits h child }

    -- where the numbers of a child begin and end
    module _ (first i : ℕ) (from : IsTreeFrom first t) (h : i < length v.items) where
      child_end : i * 2 ^ below + 2 ^ below ≤ 2 ^ from.width
      child_end =
          let has = has_children t below a v is at from.width from.fits in
          let less = has.less in
          let count = children_count v.items in
          let all = reach from.width below (length (all_contents v.items)) (omega arith) has.most in
          let upto = mul-le (i + 1) (2 ^ below) (length (all_contents v.items)) (2 ^ below) (omega arith) (omega arith) in
          omega arith

      pub child_width : below < 64
      child_width =
          let less = (has_children t below a v is at from.width from.fits).less in
          let most = from.most in
          elim (cases_lt 64 from.width) [
            | inl above ↦ (let more = pow_below 64 from.width above in absurd (omega arith))
            | inr within ↦ omega arith
          ]

      pub child_from : (x : Tree V) → ((d : Tree V) → x ≡ get_or v.items i d) → IsTreeFrom (first + i * 2 ^ below) x
      child_from x child =
          let most = from.most in
          let end = child_end in
          record { width = below; most = omega arith; fits = child_fits from.width i x from.fits h child }

      pub child_number : first + i * 2 ^ below < 2 ^ 64
      child_number =
          let most = from.most in
          let end = child_end in
          let some = pow_pos below in
          omega arith

      -- the digit in its place loses no bit
      pub child_shift : (i * 2 ^ below) % 2 ^ 64 ≡ i * 2 ^ below
      child_shift = let below_all = child_number in mod-eq_of_lt (omega arith)
