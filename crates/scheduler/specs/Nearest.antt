-- The nearest box around a place that has a candidate of a split, where nothing else is open in it.
use Rattle.std.specs.Prelude.{◌≡◌, ℕ, Bool, ◌≤◌, List, [], ◌∷◌, length, Option, Some, None, is_some, if◌then◌else◌}
use Rattle.akl_terms.specs.declared.name.Name.{Name}
use Rattle.akl_terms.specs.declared.name.Place.{Place}
use Rattle.wake_lists.specs.Open.{Openings, closed, is_busy}
use Rattle.table_laws.specs.Rows.{Table}
use Rattle.table_laws.specs.Writes.{home_in}
use Rattle.box_tree.specs.Tables.{TableValue, table_of}
use Rattle.box_tree.specs.Paths.{outside_of}
use Rattle.box_tree.specs.Insides.{candidate_in}

-- the innermost box around a place
abbrev pub first_around : Table → Place → Option Name
first_around T (Place.Goal g) = home_in (T.goal_of g)
first_around T (Place.Box n) = outside_of T n

-- the boxes from one on outwards, innermost first
abbrev pub Outward : Table → Option Name → List Name → Type 0
Outward T first [] = first ≡ None
Outward T first (n ∷ ns) = (first ≡ Some n) × Outward T (outside_of T n) ns

-- they are no more than the table has
abbrev pub HasWayOut : TableValue → Option Name → Type 0
HasWayOut v first = (ns : List Name) × Outward (table_of v) first ns × (length ns ≤ length v.boxes)

-- the first of some boxes that has a candidate, if none up to it is busy
abbrev pub first_quiet : Table → (Name → Bool) → List Name → Option Name
first_quiet T busy [] = None
first_quiet T busy (n ∷ ns) = if busy n then None else (if is_some (candidate_in T n) then Some n else first_quiet T busy ns)

-- something other than what has a token is open in a box
abbrev pub is_used : Openings → ℕ → Name → Bool
is_used os own n = is_busy n (closed own os)

-- the first box outwards that has a candidate, if nothing but what has the token is open in it
abbrev pub IsQuietOutward : TableValue → Openings → ℕ → Option Name → Option Name → Type 0
IsQuietOutward v os own first result = (ns : List Name) → Outward (table_of v) first ns → result ≡ first_quiet (table_of v) (is_used os own) ns

abbrev pub IsQuietCandidate : TableValue → Openings → ℕ → Place → Option Name → Type 0
IsQuietCandidate v os own place result = IsQuietOutward v os own (first_around (table_of v) place) result
