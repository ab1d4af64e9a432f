-- Values by the numbers of their slots: what is found, and what a change of one slot makes of them.
use Rattle.std.proofs.Common.{◌≡◌, ℕ, zero, suc, ◌+◌, ◌<◌, ◌≤◌, Bool, true, false, List, [], ◌∷◌, ◌++◌, length, get_or, set, Option, Some, None, refl, sym, ap, ◌∙◌, add-zero, arith}
use Rattle.std.proofs.lemmas.Bool.Decides.{nat_tests}
use Rattle.std.proofs.lemmas.List.{get_or-set_same, get_or-set_other, get_or_past}
use Rattle.std.specs.Prelude.{cond, is_some, if◌then◌else◌}
use Rattle.std.specs.Map.{lookup, remove_entry, keys_of}
use Rattle.std.specs.BTreeMap.{insert_entry}
use Rattle.std.specs.List.{AllByRecursion}
use Rattle.std.specs.List.Sorted.{IsStrictlySortedBy}
use Rattle.std.specs.Ordering.{nat_cmp, match_ordering}
use Rattle.std.specs.declared.cmp.Ordering.{Ordering}
use Rattle.wake_lists.specs.Slots.{filled_from, filled, Finds, tally, tally_at, IsPut, IsTakenOut}
use Rattle.wake_lists.proofs.Keys.{token_equal}
use lib.Dec.{eqb}

apart : (t k : ℕ) → t < k → eqb t k ≡ false
apart t k h = grind (arith, nat_tests)

apart_above : (t k : ℕ) → k < t → eqb t k ≡ false
apart_above t k h = grind (arith, nat_tests)

here : (t k : ℕ) → t ≡ k → eqb t k ≡ true
here t k h = grind (arith, nat_tests)

less : (t k : ℕ) → t < k → nat_cmp t k ≡ Ordering.Less
less t k h = grind (arith, nat_tests)

equal : (t k : ℕ) → t ≡ k → nat_cmp t k ≡ Ordering.Equal
equal t k h = grind (arith, nat_tests)

greater : (t k : ℕ) → k < t → nat_cmp t k ≡ Ordering.Greater
greater t k h = grind (arith, nat_tests)

module _ {V : Type 0} where
  -- no number below the first slot's leads to a value
  found_below : (t k : ℕ) → t < k → (slots : List (Option V)) → lookup (eqb t) (filled_from k slots) ≡ None
  found_below t k h [] = refl
  found_below t k h (None ∷ slots) = found_below t (k + 1) (omega arith) slots
  found_below t k h (Some v ∷ slots) = ap (λ (b : Bool). cond b (Some v) (lookup (eqb t) (filled_from (k + 1) slots))) (apart t k h) ∙ found_below t (k + 1) (omega arith) slots

  found_from : (t k i : ℕ) → t ≡ k + i → (slots : List (Option V)) → lookup (eqb t) (filled_from k slots) ≡ get_or slots i None
  found_from t k i e [] = refl
  found_from t k zero e (None ∷ slots) = found_below t (k + 1) (omega arith) slots
  found_from t k zero e (Some v ∷ slots) = ap (λ (b : Bool). cond b (Some v) (lookup (eqb t) (filled_from (k + 1) slots))) (here t k (omega arith))
  found_from t k (suc i) e (None ∷ slots) = found_from t (k + 1) i (omega arith) slots
  found_from t k (suc i) e (Some v ∷ slots) = ap (λ (b : Bool). cond b (Some v) (lookup (eqb t) (filled_from (k + 1) slots))) (apart_above t k (omega arith)) ∙ found_from t (k + 1) i (omega arith) slots

  -- a number leads to what its slot has
  pub found_in : (slots : List (Option V)) (t : ℕ) → lookup (eqb t) (filled slots) ≡ get_or slots t None
  found_in slots t = found_from t 0 t (omega arith) slots

  put_below : (t k : ℕ) (v : V) → t < k → (slots : List (Option V)) → insert_entry nat_cmp (filled_from k slots) t v ≡ (t, v) ∷ filled_from k slots
  put_below t k v h [] = refl
  put_below t k v h (None ∷ slots) = put_below t (k + 1) v (omega arith) slots
  put_below t k v h (Some w ∷ slots) =
      let es = filled_from (k + 1) slots in
      ap (λ (o : Ordering). match_ordering o ((t, v) ∷ (k, w) ∷ es) ((k, v) ∷ es) ((k, w) ∷ insert_entry nat_cmp es t v)) (less t k h)

  put_from : (t k i : ℕ) (v : V) → t ≡ k + i → (slots : List (Option V)) → i < length slots → insert_entry nat_cmp (filled_from k slots) t v ≡ filled_from k (set slots i (Some v))
  put_from t k i v e [] h = absurd (omega arith)
  put_from t k zero v e (None ∷ slots) h =
      let first : t ≡ k = omega arith in
      put_below t (k + 1) v (omega arith) slots ∙ ap (λ (n : ℕ). (n, v) ∷ filled_from (k + 1) slots) first
  put_from t k zero v e (Some w ∷ slots) h =
      let es = filled_from (k + 1) slots in
      ap (λ (o : Ordering). match_ordering o ((t, v) ∷ (k, w) ∷ es) ((k, v) ∷ es) ((k, w) ∷ insert_entry nat_cmp es t v)) (equal t k (omega arith))
  put_from t k (suc i) v e (None ∷ slots) h = put_from t (k + 1) i v (omega arith) slots (omega arith)
  put_from t k (suc i) v e (Some w ∷ slots) h =
      let es = filled_from (k + 1) slots in
      ap (λ (o : Ordering). match_ordering o ((t, v) ∷ (k, w) ∷ es) ((k, v) ∷ es) ((k, w) ∷ insert_entry nat_cmp es t v)) (greater t k (omega arith))
      ∙ ap (λ (fs : List (ℕ × V)). (k, w) ∷ fs) (put_from t (k + 1) i v (omega arith) slots (omega arith))

  out_below : (t k : ℕ) → t < k → (slots : List (Option V)) → remove_entry (eqb t) (filled_from k slots) ≡ filled_from k slots
  out_below t k h [] = refl
  out_below t k h (None ∷ slots) = out_below t (k + 1) (omega arith) slots
  out_below t k h (Some w ∷ slots) =
      let es = filled_from (k + 1) slots in
      ap (λ (b : Bool). cond b es ((k, w) ∷ remove_entry (eqb t) es)) (apart t k h) ∙ ap (λ (fs : List (ℕ × V)). (k, w) ∷ fs) (out_below t (k + 1) (omega arith) slots)

  out_from : (t k i : ℕ) → t ≡ k + i → (slots : List (Option V)) → remove_entry (eqb t) (filled_from k slots) ≡ filled_from k (set slots i None)
  out_from t k i e [] = refl
  out_from t k zero e (None ∷ slots) = out_below t (k + 1) (omega arith) slots
  out_from t k zero e (Some w ∷ slots) =
      let es = filled_from (k + 1) slots in
      ap (λ (b : Bool). cond b es ((k, w) ∷ remove_entry (eqb t) es)) (here t k (omega arith))
  out_from t k (suc i) e (None ∷ slots) = out_from t (k + 1) i (omega arith) slots
  out_from t k (suc i) e (Some w ∷ slots) =
      let es = filled_from (k + 1) slots in
      ap (λ (b : Bool). cond b es ((k, w) ∷ remove_entry (eqb t) es)) (apart_above t k (omega arith)) ∙ ap (λ (fs : List (ℕ × V)). (k, w) ∷ fs) (out_from t (k + 1) i (omega arith) slots)

  all_above : (j k : ℕ) → j < k → (slots : List (Option V)) → AllByRecursion (λ (n : ℕ). nat_cmp j n ≡ Ordering.Less) (keys_of (filled_from k slots))
  all_above j k h [] = tt
  all_above j k h (None ∷ slots) = all_above j (k + 1) (omega arith) slots
  all_above j k h (Some v ∷ slots) = (less j k h, all_above j (k + 1) (omega arith) slots)

  ordered_from : (k : ℕ) (slots : List (Option V)) → IsStrictlySortedBy nat_cmp (keys_of (filled_from k slots))
  unfolding IsStrictlySortedBy
  ordered_from k [] = tt
  ordered_from k (None ∷ slots) = ordered_from (k + 1) slots
  ordered_from k (Some v ∷ slots) = (all_above k (k + 1) (omega arith) slots, ordered_from (k + 1) slots)

  counted_from : (k i : ℕ) (w : Option V) (slots : List (Option V)) → i < length slots
      → length (filled_from k (set slots i w)) + (if is_some (get_or slots i None) then 1 else 0) ≡ length (filled_from k slots) + (if is_some w then 1 else 0)
  counted_from k i w [] h = absurd (omega arith)
  counted_from k zero None (None ∷ slots) h = refl
  counted_from k zero None (Some u ∷ slots) h = omega arith
  counted_from k zero (Some v) (None ∷ slots) h = omega arith
  counted_from k zero (Some v) (Some u ∷ slots) h = refl
  counted_from k (suc i) w (None ∷ slots) h = counted_from (k + 1) i w slots (omega arith)
  counted_from k (suc i) w (Some u ∷ slots) h = let rest = counted_from (k + 1) i w slots (omega arith) in omega arith

  -- how many values there are, once one slot has another value or none
  pub counted_at : (slots : List (Option V)) (t : ℕ) (b : Bool) (w : Option V) → is_some (get_or slots t None) ≡ b → t < length slots
      → length (filled (set slots t w)) + (if b then 1 else 0) ≡ length (filled slots) + (if is_some w then 1 else 0)
  counted_at slots t b w e h = ap (λ (c : Bool). length (filled (set slots t w)) + (if c then 1 else 0)) (sym e) ∙ counted_from 0 t w slots h

  tallied_from : (test : V → Bool) (k i : ℕ) (w : Option V) (slots : List (Option V)) → i < length slots
      → tally test (filled_from k (set slots i w)) + tally_at test (get_or slots i None) ≡ tally test (filled_from k slots) + tally_at test w
  tallied_from test k i w [] h = absurd (omega arith)
  tallied_from test k zero None (None ∷ slots) h = refl
  tallied_from test k zero None (Some u ∷ slots) h = omega arith
  tallied_from test k zero (Some v) (None ∷ slots) h = omega arith
  tallied_from test k zero (Some v) (Some u ∷ slots) h = omega arith
  tallied_from test k (suc i) w (None ∷ slots) h = tallied_from test (k + 1) i w slots (omega arith)
  tallied_from test k (suc i) w (Some u ∷ slots) h = let rest = tallied_from test (k + 1) i w slots (omega arith) in omega arith

  -- how many values pass a test, once one slot has another value or none
  tallied_at : (slots : List (Option V)) (t : ℕ) (w : Option V) → t < length slots → (test : V → Bool)
      → tally test (filled (set slots t w)) + tally_at test (lookup (eqb t) (filled slots)) ≡ tally test (filled slots) + tally_at test w
  tallied_at slots t w h test = ap (λ (o : Option V). tally test (filled (set slots t w)) + tally_at test o) (found_in slots t) ∙ tallied_from test 0 t w slots h

  fewer_from : (k : ℕ) (slots : List (Option V)) → length (filled_from k slots) ≤ length slots
  fewer_from k [] = omega arith
  fewer_from k (None ∷ slots) = let rest = fewer_from (k + 1) slots in omega arith
  fewer_from k (Some v ∷ slots) = let rest = fewer_from (k + 1) slots in omega arith

  -- there are no more values than slots
  pub fewer : (slots : List (Option V)) → length (filled slots) ≤ length slots
  fewer slots = fewer_from 0 slots

  grown_from : (k : ℕ) (slots : List (Option V)) → filled_from k (slots ++ None ∷ []) ≡ filled_from k slots
  grown_from k [] = refl
  grown_from k (None ∷ slots) = grown_from (k + 1) slots
  grown_from k (Some v ∷ slots) = ap (λ (es : List (ℕ × V)). (k, v) ∷ es) (grown_from (k + 1) slots)

  -- one empty slot more makes no difference
  pub grown : (slots : List (Option V)) → filled (slots ++ None ∷ []) ≡ filled slots
  grown slots = grown_from 0 slots

  finds_set : (slots : List (Option V)) (t : ℕ) (w : Option V) → t < length slots → Finds (filled slots) (filled (set slots t w)) t w
  finds_set slots t w h s = found_in (set slots t w) s ∙ on (eqb t s) refl
    where
      on : (b : Bool) → eqb t s ≡ b → get_or (set slots t w) s None ≡ (if b then w else lookup (eqb s) (filled slots))
      on true e =
          let same : s ≡ t = sym (token_equal t s e) in
          ap (λ (n : ℕ). get_or (set slots t w) n None) same ∙ get_or-set_same slots t w None h
      on false e = get_or-set_other slots t s w None (λ same. differ same e) ∙ sym (found_in slots s)
        where
          differ : s ≡ t → eqb t s ≡ false → ⊥
          differ same f = let no : true ≡ false = sym (here t s (sym same)) ∙ f in absurd (cc)

  pub put_in_slot : (slots : List (Option V)) (t : ℕ) (v : V) → t < length slots → IsPut (filled slots) (filled (set slots t (Some v))) t v
  put_in_slot slots t v h = record {
    entries = sym (put_from t 0 t v (omega arith) slots h);
    ordered = ordered_from 0 (set slots t (Some v));
    finds = finds_set slots t (Some v) h;
    tallied = tallied_at slots t (Some v) h;
  }

  pub taken_from_slot : (slots : List (Option V)) (t : ℕ) → t < length slots → IsTakenOut (filled slots) (filled (set slots t None)) t
  taken_from_slot slots t h = record {
    entries = sym (out_from t 0 t (omega arith) slots);
    ordered = ordered_from 0 (set slots t None);
    finds = finds_set slots t None h;
    tallied = λ test. tallied_at slots t None h test ∙ add-zero (tally test (filled slots));
  }

  -- where there is no slot, there is nothing to take out
  pub not_in_slot : (slots : List (Option V)) (t : ℕ) → length slots ≤ t → IsTakenOut (filled slots) (filled slots) t
  not_in_slot slots t h = record {
    entries = sym (out_from t 0 t (omega arith) slots ∙ ap filled (unset slots t h));
    ordered = ordered_from 0 slots;
    finds = λ s. on s (eqb t s) refl;
    tallied = λ test.
        ap (λ (o : Option V). tally test (filled slots) + tally_at test o) (found_in slots t ∙ get_or_past slots t None h) ∙ add-zero (tally test (filled slots));
  }
    where
      unset : (xs : List (Option V)) (i : ℕ) → length xs ≤ i → set xs i None ≡ xs
      unset [] i h = refl
      unset (x ∷ xs) zero h = absurd (omega arith)
      unset (x ∷ xs) (suc i) h = ap (λ (ys : List (Option V)). x ∷ ys) (unset xs i (omega arith))

      on : (s : ℕ) (b : Bool) → eqb t s ≡ b → lookup (eqb s) (filled slots) ≡ (if b then None else lookup (eqb s) (filled slots))
      on s true e = let same : s ≡ t = sym (token_equal t s e) in found_in slots s ∙ get_or_past slots s None (omega arith)
      on s false e = refl

  -- where a value is found, there is a slot
  pub has_slot : (slots : List (Option V)) (t : ℕ) → is_some (lookup (eqb t) (filled slots)) ≡ true → t < length slots
  has_slot slots t e = within slots t (sym (ap is_some (found_in slots t)) ∙ e)
    where
      within : (xs : List (Option V)) (i : ℕ) → is_some (get_or xs i None) ≡ true → i < length xs
      within [] i f = absurd (cc)
      within (x ∷ xs) zero f = omega arith
      within (x ∷ xs) (suc i) f = let rest = within xs i f in omega arith
