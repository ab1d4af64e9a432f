-- Kept choices of boxes, when one is added or taken out.
use Rattle.std.proofs.Common.{◌≡◌, Bool, true, false, List, [], ◌∷◌, refl, sym, ap, ◌∙◌, subst, arith, ◌⊎◌, inl, inr}
use Rattle.std.proofs.lemmas.Bool.Decides.{nat_tests}
use Rattle.std.specs.Prelude.{cond, ◌||◌, ◌&&◌, not, slice_get}
use Rattle.std.specs.Option.{IfSome}
use Rattle.std.specs.List.{list_any}
use Rattle.std.specs.BTreeMap.{is_at}
use Rattle.std.specs.BTreeMap.Range.{IsLeBy, IsFromStart}
use Rattle.std.specs.BTreeSet.{BTreeSet, contains, IsKeyInRange, IsKeyRangeOf}
use Rattle.std.specs.Ordering.{is_eq, is_gt, ordering_then}
use Rattle.std.specs.declared.cmp.Ordering.{Ordering}
use Rattle.std.specs.declared.ops.Bound.{Bound}
use Rattle.std.specs.declared.ops.Bound.TheVariants.{Included, Unbounded}
use Rattle.akl_terms.specs.declared.name.Name.{Name}
use Rattle.akl_terms.specs.Names.{same_name, name_cmp}
use Rattle.akl_terms.proofs.SameNames.{same_name-equal}
use Rattle.local_store.proofs.Orders.{name-same}
use Rattle.wake_lists.proofs.Keys.{name_back}
use Rattle.scheduler.specs.declared.splits.Split.{Split}
use Rattle.scheduler.specs.contracts.splits.SplitOrd.TheImpl as in_order
use Rattle.scheduler.specs.Splits.{same_split, is_kept, has_kept, first_of}
use Rattle.scheduler.proofs.CommitFacts.{not_both, or_true, or_left, or_right}

then_is : (a b : Ordering) → is_eq (ordering_then a b) ≡ (is_eq a && is_eq b)
then_is Ordering.Less b = refl
then_is Ordering.Equal b = refl
then_is Ordering.Greater b = refl

split_is : (s r : Split) → is_at (in_order.cmp-value.it s) r ≡ same_split s r
split_is s r = then_is (name_cmp s.name r.name) (name_cmp s.goal r.goal) ∙ (λ i. name-same s.name r.name i && name-same s.goal r.goal i)

has_is : (ss : BTreeSet Split) (s : Split) → contains in_order.cmp-value.it ss s ≡ is_kept s ss.keys
has_is ss s = λ i. list_any (λ r. split_is s r i) ss.keys

-- tests of them
both_true : (a b : Bool) → (a && b) ≡ true → (a ≡ true) × (b ≡ true)
both_true true b e = (refl, e)
both_true false b e = cc

pub split_equal : (s r : Split) → same_split s r ≡ true → s ≡ r
split_equal s r e =
    let w : (same_name s.name r.name ≡ true) × (same_name s.goal r.goal ≡ true) = both_true (same_name s.name r.name) (same_name s.goal r.goal) e in
    λ i. record { name = same_name-equal s.name r.name w.0 i; goal = same_name-equal s.goal r.goal w.1 i }

pub split_itself : (s : Split) → same_split s s ≡ true
split_itself s = grind (arith, nat_tests)

split_back : (s r : Split) → same_split s r ≡ same_split r s
split_back s r = λ i. name_back s.name r.name i && name_back s.goal r.goal i

-- one that is kept is directly in its box
pub kept_has : (s : Split) (ss : List Split) → is_kept s ss ≡ true → has_kept s.name ss ≡ true
kept_has s [] e = cc
kept_has s (r ∷ rs) e = elim (or_true (same_split s r) (is_kept s rs) e) [
  | inl f ↦ or_left (same_name s.name r.name) (has_kept s.name rs) (both_true (same_name s.name r.name) (same_name s.goal r.goal) f).0
  | inr f ↦ or_right (same_name s.name r.name) (has_kept s.name rs) (kept_has s rs f)
]

pub has_one : (n : Name) (ss : List Split) → has_kept n ss ≡ true → (s : Split) × (s.name ≡ n) × (is_kept s ss ≡ true)
has_one n [] e = cc
has_one n (r ∷ rs) e = on (or_true (same_name n r.name) (has_kept n rs) e) (has_one n rs)
  where
    on : (same_name n r.name ≡ true) ⊎ (has_kept n rs ≡ true) → (has_kept n rs ≡ true → (s : Split) × (s.name ≡ n) × (is_kept s rs ≡ true)) → (s : Split) × (s.name ≡ n) × (is_kept s (r ∷ rs) ≡ true)
    on (inl f) k = (r, sym (same_name-equal n r.name f), or_left (same_split r r) (is_kept r rs) (split_itself r))
    on (inr f) k = let w : (s : Split) × (s.name ≡ n) × (is_kept s rs ≡ true) = k f in (w.0, w.1, or_right (same_split w.0 r) (is_kept w.0 rs) w.2)

-- once one was added or taken out
abbrev Puts : BTreeSet Split → BTreeSet Split → Split → Bool → Type 0
Puts ss us r w = (q : Split) → contains in_order.cmp-value.it us q ≡ cond (is_at (in_order.cmp-value.it r) q) w (contains in_order.cmp-value.it ss q)

module _ (ss us : BTreeSet Split) (r : Split) where
  now : (w : Bool) → Puts ss us r w → (s : Split) → is_kept s us.keys ≡ cond (same_split s r) w (is_kept s ss.keys)
  now w p s = sym (has_is us s) ∙ p s ∙ (λ i. cond ((split_is r s ∙ split_back r s) i) w (has_is ss s i))

  pub added : Puts ss us r true → (s : Split) → is_kept s us.keys ≡ (is_kept s ss.keys || same_split s r)
  added p s = now true p s ∙ on (same_split s r) (is_kept s ss.keys)
    where
      on : (a w : Bool) → cond a true w ≡ (w || a)
      on true true = refl
      on true false = refl
      on false true = refl
      on false false = refl

  pub removed : Puts ss us r false → (s : Split) → is_kept s us.keys ≡ (is_kept s ss.keys && not (same_split s r))
  removed p s = now false p s ∙ on (same_split s r) (is_kept s ss.keys)
    where
      on : (a w : Bool) → cond a false w ≡ (w && not a)
      on true true = refl
      on true false = refl
      on false true = refl
      on false false = refl

pub then_gt : (a b : Ordering) → is_gt (ordering_then a b) ≡ false → is_gt a ≡ false
then_gt Ordering.Less b e = refl
then_gt Ordering.Equal b e = refl
then_gt Ordering.Greater b e = e

same_first : (m n : Name) → is_gt (name_cmp m n) ≡ false → is_gt (name_cmp n m) ≡ false → same_name m n ≡ true
same_first m n e f = grind (arith, nat_tests)

-- from the first place in a box on
abbrev pub from_box : Name → Bound Split
from_box n = Included (first_of n)

box_has : (s : Split) → IsFromStart in_order.cmp-value.it (from_box s.name) s
box_has s = grind (arith, nat_tests)

-- The first of them from there on is in the box, where one is
module _ (ss : BTreeSet Split) (n : Name) (r : List Split) (part : IsKeyRangeOf in_order.cmp-value.it (from_box n) Unbounded ss r) where
  pub none_from : r ≡ [] → has_kept n ss.keys ≡ false
  none_from e = on (has_kept n ss.keys) refl
    where
      on : (b : Bool) → has_kept n ss.keys ≡ b → b ≡ false
      on false f = refl
      on true f =
          let w : (s : Split) × (s.name ≡ n) × (is_kept s ss.keys ≡ true) = has_one n ss.keys f in
          absurd (not_both (has_is ss w.0 ∙ w.2) (part.5 e w.0 (subst (λ (m : Name). IsFromStart in_order.cmp-value.it (from_box m) w.0) w.1 (box_has w.0), tt)))

  module _ (x : Split) (rest : List Split) (starts : r ≡ x ∷ rest) where
    first_there : IsKeyInRange in_order.cmp-value.it (from_box n) Unbounded ss x
    first_there = subst (λ (l : List Split). IfSome (slice_get l 0) (IsKeyInRange in_order.cmp-value.it (from_box n) Unbounded ss)) starts part.1

    from : is_gt (name_cmp n x.name) ≡ false
    from = then_gt (name_cmp n x.name) (name_cmp (record { worker = 0; number = 0 }) x.goal) first_there.0.0

    least : (s : Split) → s.name ≡ n → is_kept s ss.keys ≡ true → is_gt (ordering_then (name_cmp x.name s.name) (name_cmp x.goal s.goal)) ≡ false
    least s e f =
        let h : IsFromStart in_order.cmp-value.it (from_box n) s = subst (λ (m : Name). IsFromStart in_order.cmp-value.it (from_box m) s) e (box_has s) in
        subst (λ (l : List Split). IfSome (slice_get l 0) (λ k. IsLeBy in_order.cmp-value.it k s)) starts (part.2 s (h, tt) (has_is ss s ∙ f))

    comes_first : (s : Split) → s.name ≡ n → is_kept s ss.keys ≡ true → is_gt (name_cmp x.name n) ≡ false
    comes_first s e f = ap (λ (m : Name). is_gt (name_cmp x.name m)) (sym e) ∙ then_gt (name_cmp x.name s.name) (name_cmp x.goal s.goal) (least s e f)

    pub first_from : same_name x.name n ≡ has_kept n ss.keys
    first_from = on (same_name x.name n) refl (has_kept n ss.keys) refl
      where
        on : (a : Bool) → same_name x.name n ≡ a → (b : Bool) → has_kept n ss.keys ≡ b → a ≡ b
        on true e true f = refl
        on false e false f = refl
        on true e false f = absurd (not_both (ap (λ (m : Name). has_kept m ss.keys) (sym (same_name-equal x.name n e)) ∙ kept_has x ss.keys (sym (has_is ss x) ∙ first_there.1)) f)
        on false e true f =
            let w : (s : Split) × (s.name ≡ n) × (is_kept s ss.keys ≡ true) = has_one n ss.keys f in
            absurd (not_both (same_first x.name n (comes_first w.0 w.1 w.2) from) e)
