-- What a name finds among the entries of all workers, and that these are in order.
use Rattle.std.proofs.Common.{◌≡◌, ℕ, ◌+◌, ◌^◌, ◌<◌, Bool, true, false, List, [], ◌∷◌, Option, Some, None, refl, sym, ap, ◌∙◌, arith}
use Rattle.std.proofs.lemmas.Bool.{eqb-true, ltb-true, ltb-false}
use Rattle.std.proofs.lemmas.Bool.Decides.{nat_tests}
use Rattle.std.specs.Prelude.{ltb, if◌then◌else◌}
use Rattle.std.specs.Map.{lookup, keys_of}
use Rattle.std.specs.List.Sorted.{IsStrictlySortedBy}
use Rattle.akl_terms.specs.declared.name.Name.{Name}
use Rattle.akl_terms.specs.Names.{same_name, name_cmp}
use Rattle.name_map.specs.Entries.{IsPut}
use Rattle.name_map.proofs.Found.{named, AllAfter, not_listed, is_listed, other_worker_below, other_number_above, worker_less, after_listed, ordered_listed}
use Rattle.name_map.proofs.SameEntries.{same_from_finds, put_from_finds}
use Rattle.frame_map.specs.declared.root.Root.{Root}
use Rattle.frame_map.specs.Roots.{OfWorker, IsRoot, of_root, all_roots, AreRootsFrom, AreRoots, value_at, entries}
use Rattle.frame_map.proofs.Bounds.{beyond}
use lib.Dec.{eqb}

other_worker : (m : Name) (w n : ℕ) → eqb m.worker w ≡ false → same_name m (named w n) ≡ false
other_worker m w n e = grind (arith, nat_tests)

module _ {V : Type 0} where
  none_before : (m : Name) (from : ℕ) (roots : List (OfWorker V)) → AreRootsFrom from roots → m.worker < from → lookup (same_name m) (entries roots) ≡ None
  none_before m from [] are h = refl
  none_before m from (r ∷ rest) are h =
      let low = are.0 in
      not_listed m r.worker 0 (2 ^ r.width) r.contents.value (entries rest) (λ i p q. other_worker_below m r.worker i (omega arith)) ∙ none_before m (r.worker + 1) rest are.2 (omega arith)

  here : (m : Name) (r : Root V) (rest : List (Root V)) → IsRoot (of_root r) → AreRootsFrom (r.worker + 1) (all_roots rest) → m.worker ≡ r.worker
      → (b : Bool) → ltb m.number (2 ^ r.width) ≡ b → lookup (same_name m) (entries (all_roots (r ∷ rest))) ≡ (of_root r).contents.value m.number
  here m r rest root are e true within =
      let below = ltb-true m.number (2 ^ r.width) within in
      is_listed m r.worker 0 (2 ^ r.width) m.number (of_root r).contents.value (entries (all_roots rest)) e (omega arith) (omega arith) (none_before m (r.worker + 1) (all_roots rest) are (omega arith))
  here m r rest root are e false within =
      let above = ltb-false m.number (2 ^ r.width) within in
      not_listed m r.worker 0 (2 ^ r.width) (of_root r).contents.value (entries (all_roots rest)) (λ i p q. other_number_above m r.worker i (omega arith))
      ∙ none_before m (r.worker + 1) (all_roots rest) are (omega arith) ∙ sym (beyond r.tree r.width m.number root.fits above)

  found_from : (m : Name) (from : ℕ) (roots : List (Root V)) → AreRootsFrom from (all_roots roots) → lookup (same_name m) (entries (all_roots roots)) ≡ value_at (all_roots roots) m
  found_from m from [] are = refl
  found_from m from (r ∷ rest) are = on (eqb m.worker r.worker) refl (found_from m (r.worker + 1) rest are.2)
    where
      on : (b : Bool) → eqb m.worker r.worker ≡ b → lookup (same_name m) (entries (all_roots rest)) ≡ value_at (all_roots rest) m
          → lookup (same_name m) (entries (all_roots (r ∷ rest))) ≡ (if b then (of_root r).contents.value m.number else value_at (all_roots rest) m)
      on true e later = here m r rest are.1 are.2 (eqb-true m.worker r.worker e) (ltb m.number (2 ^ r.width)) refl
      on false e later = not_listed m r.worker 0 (2 ^ r.width) (of_root r).contents.value (entries (all_roots rest)) (λ i p q. other_worker m r.worker i e) ∙ later

  -- a name leads to what the tree of its worker has
  pub found : (roots : List (Root V)) → AreRoots (all_roots roots) → (m : Name) → lookup (same_name m) (entries (all_roots roots)) ≡ value_at (all_roots roots) m
  found roots are m = found_from m 0 roots are

  after : (j : Name) (from : ℕ) (roots : List (OfWorker V)) → AreRootsFrom from roots → j.worker < from → AllAfter j (entries roots)
  after j from [] are h = tt
  after j from (r ∷ rest) are h =
      let low = are.0 in
      after_listed j r.worker 0 (2 ^ r.width) r.contents.value (entries rest) (λ i p. worker_less j r.worker i (omega arith)) (after j (r.worker + 1) rest are.2 (omega arith))

  ordered_from : (from : ℕ) (roots : List (OfWorker V)) → AreRootsFrom from roots → IsStrictlySortedBy name_cmp (keys_of (entries roots))
  unfolding IsStrictlySortedBy
  ordered_from from [] are = tt
  ordered_from from (r ∷ rest) are = ordered_listed r.worker 0 (2 ^ r.width) r.contents.value (entries rest) (λ i. after (named r.worker i) (r.worker + 1) rest are.2 (omega arith)) (ordered_from (r.worker + 1) rest are.2)

  pub ordered : (roots : List (OfWorker V)) → AreRoots roots → IsStrictlySortedBy name_cmp (keys_of (entries roots))
  ordered roots are = ordered_from 0 roots are

  -- two lists of roots in which each name has the same value have the same entries
  pub entries_same : (old new : List (Root V)) → AreRoots (all_roots old) → AreRoots (all_roots new) → ((m : Name) → value_at (all_roots new) m ≡ value_at (all_roots old) m) → entries (all_roots new) ≡ entries (all_roots old)
  entries_same old new was are same =
      same_from_finds (entries (all_roots new)) (entries (all_roots old)) (ordered (all_roots new) are) (ordered (all_roots old) was) (λ m. found new are m ∙ same m ∙ sym (found old was m))

  -- one name has another value
  pub entries_put : (old new : List (Root V)) → AreRoots (all_roots old) → AreRoots (all_roots new) → (k : Name) (v : V)
      → ((m : Name) → value_at (all_roots new) m ≡ (if same_name m k then Some v else value_at (all_roots old) m)) → IsPut (entries (all_roots old)) (entries (all_roots new)) k v
  entries_put old new was are k v put =
      put_from_finds (entries (all_roots old)) (entries (all_roots new)) k v (ordered (all_roots old) was) (ordered (all_roots new) are)
      (λ m. found new are m ∙ put m ∙ ap (λ (o : Option V). if same_name m k then Some v else o) (sym (found old was m)))
