-- What a name finds among the entries, and that these are in order.
use Rattle.std.proofs.Common.{◌≡◌, ℕ, zero, suc, ◌+◌, ◌*◌, ◌/◌, ◌<◌, ◌≤◌, Bool, true, false, cond, List, [], ◌∷◌, length, Option, Some, None, refl, sym, ap, ◌∙◌, arith}
use Rattle.std.proofs.lemmas.Bool.Decides.{nat_tests}
use Rattle.std.specs.Prelude.{nat_lt}
use Rattle.std.specs.Map.{lookup, keys_of}
use Rattle.std.specs.List.{AllByRecursion}
use Rattle.std.specs.List.Sorted.{IsStrictlySortedBy}
use Rattle.std.specs.Ordering.{nat_cmp, ordering_then}
use Rattle.std.specs.declared.cmp.Ordering.{Ordering}
use Rattle.std.specs.declared.cmp.Ordering.TheVariants.{Less, Equal}
use Rattle.akl_terms.specs.declared.name.Name.{Name}
use Rattle.akl_terms.specs.Names.{same_name, name_cmp}
use Rattle.name_map.specs.declared.numbers.Numbers.{Numbers}
use Rattle.name_map.specs.Pages.{within, in_chunk, in_numbers, value_at, with_value, listed, entries_from, entries}
use Rattle.name_map.proofs.Within.{within_past}

abbrev pub named : ℕ → ℕ → Name
named w n = record { worker = w; number = n }

pub other_worker_below : (m : Name) (w n : ℕ) → m.worker < w → same_name m (named w n) ≡ false
other_worker_below m w n h = grind (arith, nat_tests)

other_worker_above : (m : Name) (w n : ℕ) → w < m.worker → same_name m (named w n) ≡ false
other_worker_above m w n h = grind (arith, nat_tests)

other_number_below : (m : Name) (w n : ℕ) → m.number < n → same_name m (named w n) ≡ false
other_number_below m w n h = grind (arith, nat_tests)

pub other_number_above : (m : Name) (w n : ℕ) → n < m.number → same_name m (named w n) ≡ false
other_number_above m w n h = grind (arith, nat_tests)

this_one : (m : Name) (w n : ℕ) → m.worker ≡ w → m.number ≡ n → same_name m (named w n) ≡ true
this_one m w n g h = grind (arith, nat_tests)

less : (a b : ℕ) → a < b → nat_cmp a b ≡ Less
less a b h = grind (arith, nat_tests)

equal : (a : ℕ) → nat_cmp a a ≡ Equal
equal a = grind (arith, nat_tests)

pub worker_less : (j : Name) (w n : ℕ) → j.worker < w → name_cmp j (named w n) ≡ Less
worker_less j w n h = ap (λ (o : Ordering). ordering_then o (nat_cmp j.number n)) (less j.worker w h)

number_less : (w k n : ℕ) → k < n → name_cmp (named w k) (named w n) ≡ Less
number_less w k n h = ap (λ (o : Ordering). ordering_then o (nat_cmp k n)) (equal w) ∙ less k n h

module _ {V : Type 0} where
  skipped : (m : Name) (w k : ℕ) (o : Option V) (es : List (Name × V)) → same_name m (named w k) ≡ false → lookup (same_name m) (with_value o w k es) ≡ lookup (same_name m) es
  skipped m w k None es e = refl
  skipped m w k (Some v) es e = ap (λ (b : Bool). cond b (Some v) (lookup (same_name m) es)) e

  met : (m : Name) (w k : ℕ) (o : Option V) (es : List (Name × V)) → same_name m (named w k) ≡ true → lookup (same_name m) es ≡ None → lookup (same_name m) (with_value o w k es) ≡ o
  met m w k None es e none = none
  met m w k (Some v) es e none = ap (λ (b : Bool). cond b (Some v) (lookup (same_name m) es)) e

  pub not_listed : (m : Name) (w k n : ℕ) (f : ℕ → Option V) (es : List (Name × V)) → ((i : ℕ) → k ≤ i → i < k + n → same_name m (named w i) ≡ false)
      → lookup (same_name m) (listed w k n f es) ≡ lookup (same_name m) es
  not_listed m w k zero f es h = refl
  not_listed m w k (suc n) f es h = skipped m w k (f k) (listed w (k + 1) n f es) (h k (omega arith) (omega arith)) ∙ not_listed m w (k + 1) n f es (λ i p q. h i (omega arith) (omega arith))

  pub is_listed : (m : Name) (w k n i : ℕ) (f : ℕ → Option V) (es : List (Name × V)) → m.worker ≡ w → m.number ≡ k + i → i < n → lookup (same_name m) es ≡ None
      → lookup (same_name m) (listed w k n f es) ≡ f m.number
  is_listed m w k zero i f es g e h none = absurd (omega arith)
  is_listed m w k (suc n) zero f es g e h none =
      let here : m.number ≡ k = omega arith in
      met m w k (f k) (listed w (k + 1) n f es) (this_one m w k g here) (not_listed m w (k + 1) n f es (λ i p q. other_number_below m w i (omega arith)) ∙ none) ∙ ap f (sym here)
  is_listed m w k (suc n) (suc i) f es g e h none =
      skipped m w k (f k) (listed w (k + 1) n f es) (other_number_above m w k (omega arith)) ∙ is_listed m w (k + 1) n i f es g (omega arith) (omega arith) none

  numbers_of : Numbers V → ℕ → Option V
  numbers_of numbers n = in_numbers n numbers

  none_before : (m : Name) (w : ℕ) (workers : List (Numbers V)) → m.worker < w → lookup (same_name m) (entries_from w workers) ≡ None
  none_before m w [] h = refl
  none_before m w (x ∷ rest) h = not_listed m w 0 (length x.chunks.items * 512) (λ n. in_numbers n x) (entries_from (w + 1) rest) (λ i p q. other_worker_below m w i h) ∙ none_before m (w + 1) rest (omega arith)

  found_here : (m : Name) (w : ℕ) (x : Numbers V) (rest : List (Numbers V)) → m.worker ≡ w → (b : Bool) → nat_lt m.number (length x.chunks.items * 512) ≡ b
      → lookup (same_name m) (entries_from w (x ∷ rest)) ≡ in_numbers m.number x
  found_here m w x rest g true e =
      let h : m.number < length x.chunks.items * 512 = grind (arith, nat_tests) in
      is_listed m w 0 (length x.chunks.items * 512) m.number (λ n. in_numbers n x) (entries_from (w + 1) rest) g (omega arith) h (none_before m (w + 1) rest (omega arith))
  found_here m w x rest g false e =
      let h : length x.chunks.items * 512 ≤ m.number = grind (arith, nat_tests) in
      not_listed m w 0 (length x.chunks.items * 512) (λ n. in_numbers n x) (entries_from (w + 1) rest) (λ i p q. other_number_above m w i (omega arith))
      ∙ none_before m (w + 1) rest (omega arith) ∙ sym (within_past (in_chunk m.number) x.chunks.items (m.number / 512) (omega arith))

  found_from : (m : Name) (w i : ℕ) (workers : List (Numbers V)) → m.worker ≡ w + i → lookup (same_name m) (entries_from w workers) ≡ within (in_numbers m.number) workers i
  found_from m w i [] e = refl
  found_from m w zero (x ∷ rest) e = found_here m w x rest (omega arith) (nat_lt m.number (length x.chunks.items * 512)) refl
  found_from m w (suc i) (x ∷ rest) e =
      not_listed m w 0 (length x.chunks.items * 512) (λ n. in_numbers n x) (entries_from (w + 1) rest) (λ j p q. other_worker_above m w j (omega arith)) ∙ found_from m (w + 1) i rest (omega arith)

  -- a name leads to what its place has
  pub found : (workers : List (Numbers V)) (m : Name) → lookup (same_name m) (entries workers) ≡ value_at workers m
  found workers m = found_from m 0 m.worker workers (omega arith)

  abbrev pub AllAfter : Name → List (Name × V) → Type 0
  AllAfter j es = AllByRecursion (λ (y : Name). name_cmp j y ≡ Less) (keys_of es)

  after_value : (j : Name) (w k : ℕ) (o : Option V) (es : List (Name × V)) → name_cmp j (named w k) ≡ Less → AllAfter j es → AllAfter j (with_value o w k es)
  after_value j w k None es h all = all
  after_value j w k (Some v) es h all = (h, all)

  pub after_listed : (j : Name) (w k n : ℕ) (f : ℕ → Option V) (es : List (Name × V)) → ((i : ℕ) → k ≤ i → name_cmp j (named w i) ≡ Less) → AllAfter j es → AllAfter j (listed w k n f es)
  after_listed j w k zero f es h all = all
  after_listed j w k (suc n) f es h all = after_value j w k (f k) (listed w (k + 1) n f es) (h k (omega arith)) (after_listed j w (k + 1) n f es (λ i p. h i (omega arith)) all)

  after_from : (j : Name) (w : ℕ) (workers : List (Numbers V)) → j.worker < w → AllAfter j (entries_from w workers)
  after_from j w [] h = tt
  after_from j w (x ∷ rest) h = after_listed j w 0 (length x.chunks.items * 512) (λ n. in_numbers n x) (entries_from (w + 1) rest) (λ i p. worker_less j w i h) (after_from j (w + 1) rest (omega arith))

  ordered_value : (w k : ℕ) (o : Option V) (es : List (Name × V)) → AllAfter (named w k) es → IsStrictlySortedBy name_cmp (keys_of es) → IsStrictlySortedBy name_cmp (keys_of (with_value o w k es))
  unfolding IsStrictlySortedBy
  ordered_value w k None es all h = h
  ordered_value w k (Some v) es all h = (all, h)

  pub ordered_listed : (w k n : ℕ) (f : ℕ → Option V) (es : List (Name × V)) → ((i : ℕ) → AllAfter (named w i) es) → IsStrictlySortedBy name_cmp (keys_of es) → IsStrictlySortedBy name_cmp (keys_of (listed w k n f es))
  ordered_listed w k zero f es all h = h
  ordered_listed w k (suc n) f es all h =
      ordered_value w k (f k) (listed w (k + 1) n f es) (after_listed (named w k) w (k + 1) n f es (λ i p. number_less w k i (omega arith)) (all k)) (ordered_listed w (k + 1) n f es all h)

  ordered_from : (w : ℕ) (workers : List (Numbers V)) → IsStrictlySortedBy name_cmp (keys_of (entries_from w workers))
  unfolding IsStrictlySortedBy
  ordered_from w [] = tt
  ordered_from w (x ∷ rest) = ordered_listed w 0 (length x.chunks.items * 512) (λ n. in_numbers n x) (entries_from (w + 1) rest) (λ i. after_from (named w i) (w + 1) rest (omega arith)) (ordered_from (w + 1) rest)

  -- the entries are in order
  pub ordered : (workers : List (Numbers V)) → IsStrictlySortedBy name_cmp (keys_of (entries workers))
  ordered workers = ordered_from 0 workers
