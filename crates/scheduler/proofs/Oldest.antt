-- The oldest of the choices that are kept of a box, found along those that come from its first on.
use Rattle.std.proofs.Common.{◌≡◌, ℕ, Bool, true, false, List, [], ◌∷◌, Option, Some, None, refl, sym, ap, ◌∙◌, subst, arith, ◌⊎◌, inl, inr}
use Rattle.std.proofs.lemmas.Bool.Decides.{nat_tests}
use Rattle.std.proofs.lemmas.List.Kept.{IsStrictlySortedBy-filter}
use Rattle.std.specs.Prelude.{cond, if◌then◌else◌, ◌||◌, ◌&&◌, ◌==◌, not, nat_lt}
use Rattle.std.specs.List.{list_any, filter, AllByRecursion}
use Rattle.std.specs.List.Sorted.{IsStrictlySortedBy}
use Rattle.std.specs.BTreeMap.Range.{range_contains}
use Rattle.std.specs.BTreeSet.{BTreeSet, IsOrdered}
use Rattle.std.specs.Ordering.{is_gt, ordering_then}
use Rattle.std.specs.declared.cmp.Ordering.{Ordering}
use Rattle.std.specs.declared.cmp.Ordering.TheVariants.{Less}
use Rattle.std.specs.declared.ops.Bound.TheVariants.{Unbounded}
use Rattle.akl_terms.specs.declared.name.Name.{Name}
use Rattle.akl_terms.specs.Names.{same_name, name_cmp, is_before}
use Rattle.akl_terms.proofs.SameNames.{same_name-equal}
use Rattle.akl_model.proofs.Options.{some_value}
use Rattle.box_tree.specs.Tables.{TableValue}
use Rattle.box_tree.specs.Insides.{since_of, is_older}
use Rattle.scheduler.specs.declared.splits.Split.{Split}
use Rattle.scheduler.specs.contracts.splits.SplitOrd.TheImpl as in_order
use Rattle.scheduler.specs.Splits.{same_split, is_kept, has_kept, older, IsOldestIn}
use Rattle.scheduler.proofs.CommitFacts.{not_both, or_true, or_left, or_right}
use Rattle.scheduler.proofs.KeptSplits.{from_box, kept_has, split_equal, split_itself}

-- of goals by age

older_itself : (t : TableValue) (g : Name) → is_older t g g ≡ false
older_itself t g = at (since_of t g) g
  where
    at : (s : ℕ) (h : Name) → nat_lt s s || ((s == s) && is_before h h) ≡ false
    at s h = grind (arith, nat_tests)

-- no goal is older than another one that isn't older than a third, where it isn't older than this either
older_along : (t : TableValue) (h o g : Name) → is_older t h o ≡ false → is_older t o g ≡ false → is_older t h g ≡ false
older_along t h o g e f = at (since_of t h) (since_of t o) (since_of t g) h o g e f
  where
    at : (a b c : ℕ) (h o g : Name) → nat_lt a b || ((a == b) && is_before h o) ≡ false → nat_lt b c || ((b == c) && is_before o g) ≡ false → nat_lt a c || ((a == c) && is_before h g) ≡ false
    at a b c h o g e f = grind (arith, nat_tests)

older_not_back : (t : TableValue) (g h : Name) → is_older t g h ≡ true → is_older t h g ≡ false
older_not_back t g h e = at (since_of t g) (since_of t h) g h e
  where
    at : (a b : ℕ) (g h : Name) → nat_lt a b || ((a == b) && is_before g h) ≡ true → nat_lt b a || ((b == a) && is_before h g) ≡ false
    at a b g h e = grind (arith, nat_tests)

-- the older one of two is one of them, and neither is older than it
is_either : (t : TableValue) (o : Option Name) (g h : Name) → older t o g ≡ h → (o ≡ Some h) ⊎ (g ≡ h)
is_either t None g h e = inr e
is_either t (Some o) g h e = on (is_older t g o) e
  where
    on : (b : Bool) → (if b then g else o) ≡ h → (Some o ≡ Some h) ⊎ (g ≡ h)
    on true f = inr f
    on false f = inl (ap Some f)

new_not_older : (t : TableValue) (o : Option Name) (g : Name) → is_older t g (older t o g) ≡ false
new_not_older t None g = older_itself t g
new_not_older t (Some o) g = on (is_older t g o) refl
  where
    on : (b : Bool) → is_older t g o ≡ b → is_older t g (if b then g else o) ≡ false
    on true e = older_itself t g
    on false e = e

old_not_older : (t : TableValue) (o g : Name) → is_older t o (older t (Some o) g) ≡ false
old_not_older t o g = on (is_older t g o) refl
  where
    on : (b : Bool) → is_older t g o ≡ b → is_older t o (if b then g else o) ≡ false
    on true e = older_not_back t g o e
    on false e = older_itself t o

-- the oldest along choices in order, up to the first of another box
abbrev pub oldest_from : TableValue → Name → Option Name → List Split → Option Name
oldest_from t n o [] = o
oldest_from t n o (s ∷ ss) = if same_name s.name n then oldest_from t n (Some (older t o s.goal)) ss else o

module _ (t : TableValue) (n : Name) where
  abbrev IsOneOf : Option Name → List Split → Name → Type 0
  IsOneOf o ss g = (o ≡ Some g) ⊎ (is_kept (record { name = n; goal = g }) ss ≡ true)

  -- it is the oldest of these and of the one before them
  abbrev IsOldestOf : Option Name → List Split → Option Name → Type 0
  IsOldestOf o ss None = (o ≡ None) × (has_kept n ss ≡ false)
  IsOldestOf o ss (Some g) = IsOneOf o ss g × ((h : Name) → IsOneOf o ss h → is_older t h g ≡ false)

  -- none of those behind one of a later box is directly in the box
  none_behind : (s : Split) (ss : List Split) → is_gt (name_cmp n s.name) ≡ false → same_name s.name n ≡ false → AllByRecursion (λ y. in_order.cmp-value.it s y ≡ Less) ss → has_kept n ss ≡ false
  none_behind s [] from other after = refl
  none_behind s (y ∷ ys) from other after = (λ i. apart (name_cmp s.name y.name) refl after.0 i || none_behind s ys from other after.1 i)
    where
      later : (a b c : Name) → is_gt (name_cmp a b) ≡ false → same_name b a ≡ false → is_gt (name_cmp b c) ≡ false → same_name a c ≡ false
      later a b c e f g = grind (arith, nat_tests)

      no_later : (a b : Ordering) → ordering_then a b ≡ Less → is_gt a ≡ false
      no_later Ordering.Less b e = refl
      no_later Ordering.Equal b e = refl
      no_later Ordering.Greater b e = cc

      apart : (o : Ordering) → name_cmp s.name y.name ≡ o → ordering_then (name_cmp s.name y.name) (name_cmp s.goal y.goal) ≡ Less → same_name n y.name ≡ false
      apart o e f = later n s.name y.name from other (no_later (name_cmp s.name y.name) (name_cmp s.goal y.goal) f)

  none_from_other : (s : Split) (ss : List Split) → is_gt (name_cmp n s.name) ≡ false → same_name s.name n ≡ false → AllByRecursion (λ y. in_order.cmp-value.it s y ≡ Less) ss → has_kept n (s ∷ ss) ≡ false
  none_from_other s ss from other after = λ i. turned s.name other i || none_behind s ss from other after i
    where
      turned : (m : Name) → same_name m n ≡ false → same_name n m ≡ false
      turned m e = grind (arith, nat_tests)

  -- what is one of them with a new one at the front is one of them with the older one before them, or isn't older than that
  step : (o : Option Name) (s : Split) (ss : List Split) (res : Option Name) → same_name s.name n ≡ true → s.name ≡ n → IsOldestOf (Some (older t o s.goal)) ss res → IsOldestOf o (s ∷ ss) res
  step o s ss None e named x = cc
  step o s ss (Some g) e named x = (one x.0, least)
    where
      here : is_kept (record { name = n; goal = s.goal }) (s ∷ ss) ≡ true
      here = subst (λ (m : Name). is_kept (record { name = m; goal = s.goal }) (s ∷ ss) ≡ true) named (or_left (same_split s s) (is_kept s ss) (split_itself s))

      one : IsOneOf (Some (older t o s.goal)) ss g → IsOneOf o (s ∷ ss) g
      one (inl f) = elim (is_either t o s.goal g (some_value f)) [
        | inl k ↦ inl k
        | inr k ↦ inr (subst (λ (m : Name). is_kept (record { name = n; goal = m }) (s ∷ ss) ≡ true) k here)
      ]
      one (inr f) = inr (or_right (same_split (record { name = n; goal = g }) s) (is_kept (record { name = n; goal = g }) ss) f)

      past : (h : Name) → is_older t h (older t o s.goal) ≡ false → is_older t h g ≡ false
      past h f = older_along t h (older t o s.goal) g f (x.1 (older t o s.goal) (inl refl))

      least : (h : Name) → IsOneOf o (s ∷ ss) h → is_older t h g ≡ false
      least h (inl f) = past h (subst (λ (p : Option Name). is_older t h (older t p s.goal) ≡ false) (sym f) (old_not_older t h s.goal))
      least h (inr f) = elim (or_true (same_split (record { name = n; goal = h }) s) (is_kept (record { name = n; goal = h }) ss) f) [
        | inl k ↦ past h (subst (λ (m : Name). is_older t m (older t o s.goal) ≡ false) (sym (ap (λ (r : Split). r.goal) (split_equal (record { name = n; goal = h }) s k))) (new_not_older t o s.goal))
        | inr k ↦ x.1 h (inr k)
      ]

  stop : (o : Option Name) (ss : List Split) → has_kept n ss ≡ false → IsOldestOf o ss o
  stop None ss none = (refl, none)
  stop (Some g) ss none = (inl refl, least)
    where
      least : (h : Name) → IsOneOf (Some g) ss h → is_older t h g ≡ false
      least h (inl e) = subst (λ (m : Name). is_older t m g ≡ false) (some_value e) (older_itself t g)
      least h (inr e) = absurd (not_both (kept_has (record { name = n; goal = h }) ss e) none)

  along : (o : Option Name) (ss : List Split) → AllByRecursion (λ (s : Split). is_gt (name_cmp n s.name) ≡ false) ss → IsStrictlySortedBy in_order.cmp-value.it ss → IsOldestOf o ss (oldest_from t n o ss)
  unfolding IsStrictlySortedBy
  along o [] from sorted = stop o [] refl
  along o (s ∷ ss) from sorted = on (same_name s.name n) refl (λ p. along p ss from.1 sorted.1)
    where
      on : (b : Bool) → same_name s.name n ≡ b → ((p : Option Name) → IsOldestOf p ss (oldest_from t n p ss)) → IsOldestOf o (s ∷ ss) (if b then oldest_from t n (Some (older t o s.goal)) ss else o)
      on true e f = step o s ss (oldest_from t n (Some (older t o s.goal)) ss) e (same_name-equal s.name n e) (f (Some (older t o s.goal)))
      on false e f = stop o (s ∷ ss) (none_from_other s ss from.0 e sorted.0)

  abbrev comes : Split → Bool
  comes = range_contains in_order.cmp-value.it (from_box n) Unbounded

  -- all that are in the box come from its first on
  in_range : (s : Split) → same_name n s.name ≡ true → comes s ≡ true
  in_range s e = grind (arith, nat_tests)

  range_from : (s : Split) → comes s ≡ true → is_gt (name_cmp n s.name) ≡ false
  range_from s e = grind (arith, nat_tests)

  all_from : (ss : List Split) → AllByRecursion (λ (s : Split). is_gt (name_cmp n s.name) ≡ false) (filter comes ss)
  all_from [] = tt
  all_from (s ∷ ss) = on (comes s) refl (all_from ss)
    where
      on : (b : Bool) → comes s ≡ b → AllByRecursion (λ (s : Split). is_gt (name_cmp n s.name) ≡ false) (filter comes ss) → AllByRecursion (λ (s : Split). is_gt (name_cmp n s.name) ≡ false) (cond b (s ∷ filter comes ss) (filter comes ss))
      on true e f = (range_from s e, f)
      on false e f = f

  any_comes : (q : Split → Bool) → ((s : Split) → q s ≡ true → comes s ≡ true) → (ss : List Split) → list_any q (filter comes ss) ≡ list_any q ss
  any_comes q f [] = refl
  any_comes q f (s ∷ ss) = on (comes s) refl (q s) refl (any_comes q f ss)
    where
      on : (b : Bool) → comes s ≡ b → (c : Bool) → q s ≡ c → list_any q (filter comes ss) ≡ list_any q ss → list_any q (cond b (s ∷ filter comes ss) (filter comes ss)) ≡ (q s || list_any q ss)
      on true e c i k = λ j. q s || k j
      on false e true i k = absurd (not_both (f s i) e)
      on false e false i k = k ∙ ap (λ (d : Bool). d || list_any q ss) (sym i)

  first_name : (g : Name) (s : Split) → same_split (record { name = n; goal = g }) s ≡ true → comes s ≡ true
  first_name g s e = in_range s (ap (λ (r : Split). same_name n r.name) (sym (split_equal (record { name = n; goal = g }) s e)) ∙ name_itself n)
    where
      name_itself : (m : Name) → same_name m m ≡ true
      name_itself m = grind (arith, nat_tests)

  -- the oldest along them is the oldest of all that are kept
  oldest_is : (kept : BTreeSet Split) → IsOrdered in_order.cmp-value.it kept → IsOldestIn t n kept.keys (oldest_from t n None (filter comes kept.keys))
  oldest_is kept ordered = on (oldest_from t n None (filter comes kept.keys)) (along None (filter comes kept.keys) (all_from kept.keys) (IsStrictlySortedBy-filter in_order.cmp-value.it comes kept.keys ordered))
    where
      same_kept : (g : Name) → is_kept (record { name = n; goal = g }) (filter comes kept.keys) ≡ is_kept (record { name = n; goal = g }) kept.keys
      same_kept g = any_comes (same_split (record { name = n; goal = g })) (first_name g) kept.keys

      on : (res : Option Name) → IsOldestOf None (filter comes kept.keys) res → IsOldestIn t n kept.keys res
      on None x = sym (any_comes (λ (s : Split). same_name n s.name) in_range kept.keys) ∙ x.1
      on (Some g) x = (one x.0, λ h k. x.1 h (inr (same_kept h ∙ k)))
        where
          one : IsOneOf None (filter comes kept.keys) g → is_kept (record { name = n; goal = g }) kept.keys ≡ true
          one (inl e) = cc
          one (inr e) = sym (same_kept g) ∙ e

  -- so it is where it is found along these in a loop
  pub oldest_of : (kept : BTreeSet Split) → IsOrdered in_order.cmp-value.it kept → (ss : List Split) → kept.keys ≡ ss → (o : Option Name) → o ≡ oldest_from t n None (filter comes ss) → IsOldestIn t n ss o
  oldest_of kept ordered ss e o f = subst (IsOldestIn t n ss) (sym f) (subst (λ (ks : List Split). IsOldestIn t n ks (oldest_from t n None (filter comes ks))) e (oldest_is kept ordered))

  pub at_other : (o : Option Name) (s : Split) (ss : List Split) → not (same_name s.name n) ≡ true → oldest_from t n o (s ∷ ss) ≡ o
  at_other o s ss e = on (same_name s.name n) e
    where
      on : (b : Bool) → not b ≡ true → (if b then oldest_from t n (Some (older t o s.goal)) ss else o) ≡ o
      on false f = refl
      on true f = cc
