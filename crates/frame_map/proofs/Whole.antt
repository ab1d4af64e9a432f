-- What a change of one root makes of the entries, and the entries of one root more.
use Rattle.std.proofs.Common.{◌≡◌, ℕ, ◌+◌, ◌^◌, ◌<◌, List, [], ◌∷◌, ◌++◌, length, length-set, get_or, set, Option, Some, inl, inr, sym, ap, subst, ◌∙◌, take_at, append_assoc, arith}
use Rattle.std.proofs.lemmas.Bool.{cases_lt}
use Rattle.std.proofs.lemmas.List.{get_or_default, map-set, at_drop_more}
use Rattle.std.specs.Prelude.{if◌then◌else◌, drop}
use Rattle.std.specs.Map.{lookup}
use Rattle.std.specs.List.{refill}
use Rattle.akl_terms.specs.declared.name.Name.{Name}
use Rattle.akl_terms.specs.Names.{same_name}
use Rattle.name_map.specs.Entries.{IsPut}
use Rattle.name_map.specs.Pages.{within, listed}
use Rattle.name_map.proofs.Within.{within_at}
use Rattle.frame_map.specs.declared.root.Root.{Root}
use Rattle.frame_map.specs.Contents.{Same, Puts, PutsMade, IsChanged}
use Rattle.frame_map.specs.Roots.{OfWorker, IsRoot, of_root, all_roots, AreRoots, worker_of, value_at, entries}
use Rattle.frame_map.proofs.Found.{found, entries_same, entries_put}
use Rattle.frame_map.proofs.Listing.{listed_first}
use Rattle.frame_map.proofs.Roots.{root_at, roots_set, value_kept, value_put, value_there, of_root_at, roots_count, is_past}

module _ {V : Type 0} where
  -- the roots, where one was lent to be written
  pub refilled : (slice rs : List (Root V)) (i : ℕ) (y : Root V) → slice ≡ rs → refill (length rs) rs (set slice i y) ≡ set rs i y
  refilled slice rs i y same =
      let count = ap length same in
      take_at (set slice i y) (drop (length (set slice i y)) rs) (length rs) (omega (arith, length-set slice i y)) ∙ ap (λ (l : List (Root V)). set l i y) same

  pub read_there : (slice rs : List (Root V)) (i : ℕ) (r : Root V) → slice ≡ rs → i < length rs → get_or slice i r ≡ get_or rs i (get_or slice i r)
  read_there slice rs i r same h = let count = ap length same in get_or_default slice i r (get_or slice i r) (omega arith) ∙ ap (λ (l : List (Root V)). get_or l i (get_or slice i r)) same

  pub has_place : (rs : List (Root V)) (i w : ℕ) → within worker_of (all_roots rs) i ≡ Some w → i < length rs
  has_place rs i w there = elim (cases_lt i (length rs)) [
    | inl h ↦ h
    | inr past ↦ absurd (is_past rs i w past there)
  ]

  pub is_root_there : (rs : List (Root V)) (i : ℕ) (x : Root V) → AreRoots (all_roots rs) → i < length rs → x ≡ get_or rs i x → IsRoot (of_root x)
  is_root_there rs i x are h is = let count = roots_count rs in (root_at 0 (all_roots rs) i (of_root x) are (omega arith) (of_root_at rs i x h is)).0

  module _ (old rs new : List (Root V)) (was : AreRoots (all_roots old)) (are : AreRoots (all_roots rs)) (made : (m : Name) → value_at (all_roots rs) m ≡ value_at (all_roots old) m) (i w : ℕ) (there : within worker_of (all_roots rs) i ≡ Some w)
      (x y : Root V) (is : x ≡ get_or rs i x) (worker : y.worker ≡ x.worker) (root : IsRoot (of_root y)) (after : new ≡ set rs i y) where
    place : i < length (all_roots rs)
    place = let count = roots_count rs in let h = has_place rs i w there in omega arith

    at : (d : OfWorker V) → of_root x ≡ get_or (all_roots rs) i d
    at = of_root_at rs i x (has_place rs i w there) is

    all_new : all_roots new ≡ set (all_roots rs) i (of_root y)
    all_new = ap all_roots after ∙ map-set of_root rs i y

    pub new_are : AreRoots (all_roots new)
    new_are = subst AreRoots (sym all_new) (roots_set 0 (all_roots rs) i (of_root x) (of_root y) are place at worker root)

    -- the root was of this worker
    of_this : x.worker ≡ w
    of_this = let read = within_at worker_of (all_roots rs) i (of_root x) place at in cc

    new_put : (k : Name) (v : V) → w ≡ k.worker → Puts (of_root x).contents (of_root y).contents k.number (Some v) → IsPut (entries (all_roots old)) (entries (all_roots new)) k v
    new_put k v is_worker put = entries_put old new was new_are k v (λ m.
        ap (λ (l : List (OfWorker V)). value_at l m) all_new ∙ value_put (all_roots rs) i (of_root x) (of_root y) are place at worker k (Some v) (of_this ∙ is_worker) put m
        ∙ ap (λ (o : Option V). if same_name m k then Some v else o) (made m))

    -- what the name led to
    had : (k : Name) → w ≡ k.worker → (of_root x).contents.value k.number ≡ lookup (same_name k) (entries (all_roots old))
    had k is_worker = value_there (all_roots rs) i (of_root x) (of_root y) are place at worker k (of_this ∙ is_worker) ∙ made k ∙ sym (found old was k)

    pub new_changed : (k : Name) (makes : Option V → V → Type 0) → w ≡ k.worker → PutsMade makes (of_root x).contents (of_root y).contents k.number → IsChanged makes (entries (all_roots old)) (entries (all_roots new)) k
    new_changed k makes is_worker h = record {
      value = h.value;
      put = new_put k h.value is_worker h.puts;
      made = subst (λ (o : Option V). makes o h.value) (had k is_worker) h.made;
    }

    pub new_same : Same (of_root x).contents (of_root y).contents → entries (all_roots new) ≡ entries (all_roots old)
    new_same kept = entries_same old new was new_are (λ m.
        ap (λ (l : List (OfWorker V)). value_at l m) all_new ∙ value_kept (all_roots rs) i (of_root x) (of_root y) are place at worker kept m ∙ made m)

  -- the entries of one root come to a list
  pub root_listed : (rs : List (Root V)) (i : ℕ) (r : Root V) (old new whole : List (Name × V)) → i < length rs → r ≡ get_or rs i r → new ≡ old ++ listed r.worker 0 (2 ^ r.width) (of_root r).contents.value []
      → old ++ entries (drop i (all_roots rs)) ≡ whole → new ++ entries (drop (i + 1) (all_roots rs)) ≡ whole
  root_listed rs i r old new whole h is more before =
      let count = roots_count rs in
      let one : List (Name × V) = listed r.worker 0 (2 ^ r.width) (of_root r).contents.value [] in
      let rest : List (Name × V) = entries (drop (i + 1) (all_roots rs)) in
      ap (λ (l : List (Name × V)). l ++ rest) more ∙ append_assoc old one rest
      ∙ ap (λ (l : List (Name × V)). old ++ l) (sym (at_drop_more entries (all_roots rs) i (of_root r) (omega arith) ∙ ap (λ (z : OfWorker V). entries (z ∷ drop (i + 1) (all_roots rs))) (sym (of_root_at rs i r h is (of_root r))) ∙ listed_first r.worker 0 (2 ^ r.width) (of_root r).contents.value rest))
      ∙ before
