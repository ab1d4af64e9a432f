-- Values by their numbers, one in each slot that isn't empty.
use Rattle.std.specs.Prelude.{◌≡◌, ℕ, ◌+◌, List, [], ◌∷◌, Option, None, Some, Bool, if◌then◌else◌}
use Rattle.std.specs.Map.{lookup, remove_entry, keys_of}
use Rattle.std.specs.BTreeMap.{insert_entry}
use Rattle.std.specs.List.Sorted.{IsStrictlySortedBy}
use Rattle.std.specs.Ordering.{nat_cmp}
use lib.Dec.{eqb}

module _ {V : Type 0} where
  -- the values with the numbers of their slots, where the first slot has this number
  abbrev pub filled_from : ℕ → List (Option V) → List (ℕ × V)
  filled_from k [] = []
  filled_from k (None ∷ slots) = filled_from (k + 1) slots
  filled_from k (Some v ∷ slots) = (k, v) ∷ filled_from (k + 1) slots

  abbrev pub filled : List (Option V) → List (ℕ × V)
  filled slots = filled_from 0 slots

  -- one number leads to something else, or to nothing
  abbrev pub Finds : List (ℕ × V) → List (ℕ × V) → ℕ → Option V → Type 0
  Finds old new t w = (s : ℕ) → lookup (eqb s) new ≡ (if eqb t s then w else lookup (eqb s) old)

  -- how many values pass a test
  abbrev pub tally_at : (V → Bool) → Option V → ℕ
  tally_at test None = 0
  tally_at test (Some v) = if test v then 1 else 0

  abbrev pub tally : (V → Bool) → List (ℕ × V) → ℕ
  tally test [] = 0
  tally test (e ∷ es) = tally_at test (Some e.1) + tally test es

  pub record IsPut (old new : List (ℕ × V)) (t : ℕ) (v : V) : Type 0 where
    pub entries : new ≡ insert_entry nat_cmp old t v
    pub ordered : IsStrictlySortedBy nat_cmp (keys_of new)
    pub finds : Finds old new t (Some v)
    pub tallied : (test : V → Bool) → tally test new + tally_at test (lookup (eqb t) old) ≡ tally test old + tally_at test (Some v)

  pub record IsTakenOut (old new : List (ℕ × V)) (t : ℕ) : Type 0 where
    pub entries : new ≡ remove_entry (eqb t) old
    pub ordered : IsStrictlySortedBy nat_cmp (keys_of new)
    pub finds : Finds old new t None
    pub tallied : (test : V → Bool) → tally test new + tally_at test (lookup (eqb t) old) ≡ tally test old
