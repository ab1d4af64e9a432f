-- The choices by which boxes could be split, as they are kept.
use Rattle.std.specs.Prelude.{◌≡◌, ℕ, List, [], ◌∷◌, ◌++◌, Bool, true, false, ◌&&◌, ◌||◌, not, if◌then◌else◌, Option, Some, None, is_some, ◌⊎◌}
use Rattle.std.specs.List.{list_any}
use Rattle.akl_terms.specs.declared.name.Name.{Name}
use Rattle.akl_terms.specs.declared.name.Place.{Place}
use Rattle.akl_terms.specs.Names.{same_name}
use Rattle.akl_model.specs.Config.{IsIn}
use Rattle.wake_lists.specs.Open.{Openings}
use Rattle.table_laws.specs.Rows.{Table}
use Rattle.table_laws.specs.Writes.{home_in}
use Rattle.box_tree.specs.Tables.{TableValue, table_of, goals_in}
use Rattle.box_tree.specs.Insides.{candidate_at, candidate_in, is_older}
use Rattle.scheduler.specs.declared.splits.Split.{Split}
use Rattle.scheduler.specs.Openings.{IsOpenAt}
use Rattle.scheduler.specs.Nearest.{is_used}
use Rattle.scheduler.specs.Schedulers.{SchedulerValue, IsScheduler}

abbrev pub same_split : Split → Split → Bool
same_split s r = same_name s.name r.name && same_name s.goal r.goal

-- it is one of these
abbrev pub is_kept : Split → List Split → Bool
is_kept s ss = list_any (same_split s) ss

-- one of these is directly in a box
abbrev pub has_kept : Name → List Split → Bool
has_kept n ss = list_any (λ (s : Split). same_name n s.name) ss

-- what comes before all choices of a box, or is the first of them
abbrev pub first_of : Name → Split
first_of n = record { name = n; goal = record { worker = 0; number = 0 } }

-- the older of two choices, where there is a first one
abbrev pub older : TableValue → Option Name → Name → Name
older t None g = g
older t (Some o) g = if is_older t g o then g else o

-- the goal of the oldest of these that is directly in a box; `None` where there is none
abbrev pub IsOldestIn : TableValue → Name → List Split → Option Name → Type 0
IsOldestIn t n kept None = has_kept n kept ≡ false
IsOldestIn t n kept (Some g) = (is_kept (record { name = n; goal = g }) kept ≡ true) × ((h : Name) → is_kept (record { name = n; goal = h }) kept ≡ true → is_older t h g ≡ false)

-- a box could be split at this alternative by the oldest of its goals that is such a choice; none where no goal of it is one
abbrev pub IsOldestCandidate : TableValue → Name → Option Name → Type 0
IsOldestCandidate t n None = candidate_in (table_of t) n ≡ None
IsOldestCandidate t n (Some a) = (g : Name) × IsIn g (goals_in ((table_of t).box_of n)) × (candidate_at (table_of t) ((table_of t).goal_of g) ≡ Some a)
    × ((h : Name) → IsIn h (goals_in ((table_of t).box_of n)) → is_some (candidate_at (table_of t) ((table_of t).goal_of h)) ≡ true → is_older t h g ≡ false)

-- a choice with its box, where it has a candidate
abbrev pub split_by : Name → Option Name → Option Name → Option Split
split_by g None home = None
split_by g (Some alternative) None = None
split_by g (Some alternative) (Some n) = Some (record { name = n; goal = g })

-- what stands at a place, where it is a choice by which its box could be split
abbrev pub split_at : Table → Place → Option Split
split_at T (Place.Box n) = None
split_at T (Place.Goal g) = split_by g (candidate_at T (T.goal_of g)) (home_in (T.goal_of g))

-- those at some places
abbrev pub split_list : Option Split → List Split
split_list None = []
split_list (Some s) = s ∷ []

abbrev pub splits_at : Table → List Place → List Split
splits_at T [] = []
splits_at T (p ∷ ps) = split_list (split_at T p) ++ splits_at T ps

-- what stands at a place is kept too, where it is one of them
abbrev pub KeepsPlace : Table → Place → List Split → List Split → Type 0
KeepsPlace T place before now = (s : Split) → is_kept s now ≡ (is_kept s before || is_kept s (split_list (split_at T place)))

-- these are kept no more
abbrev pub DropsSplits : List Split → List Split → List Split → Type 0
DropsSplits ended before now = (s : Split) → is_kept s now ≡ (is_kept s before && not (is_kept s ended))

-- of what is kept, giving up these is giving up all that stand at the places that open or go
abbrev pub EndsThose : Table → List Place → List Place → List Split → List Split → Type 0
EndsThose T opened gone kept ended = (s : Split) → (is_kept s kept && not (is_kept s ended)) ≡ (is_kept s kept && not (is_kept s (splits_at T opened ++ splits_at T gone)))

-- each of them is kept that isn't open, and nothing is kept that isn't one of them
pub record AreSplitsOf (T : Table) (os : Openings) (kept : List Split) : Type 0 where
  pub all : (s : Split) → split_at T (Place.Goal s.goal) ≡ Some s → IsOpenAt os (Place.Goal s.goal) ⊎ (is_kept s kept ≡ true)
  pub only : (s : Split) → is_kept s kept ≡ true → split_at T (Place.Goal s.goal) ≡ Some s

-- a scheduler keeps these of its own table
pub record KeepsSplits (s : SchedulerValue) (kept : List Split) : Type 0 where
  pub scheduler : IsScheduler s
  pub splits : AreSplitsOf (table_of s.core.table) s.openings kept

-- a box could be split exactly where one is kept of it, if nothing is open in it but what has a token
abbrev pub AreEnough : TableValue → Openings → ℕ → List Split → Type 0
AreEnough v os own kept = (n : Name) → is_used os own n ≡ false → is_some (candidate_in (table_of v) n) ≡ has_kept n kept
