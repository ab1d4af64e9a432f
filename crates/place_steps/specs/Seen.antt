-- What a worker saw of a place.
use Rattle.std.specs.Prelude.{◌≡◌, ℕ, true, false, List, length, Option, Some, None}
use Rattle.akl_terms.specs.declared.name.Name.{Name}
use Rattle.akl_terms.specs.declared.name.Place.{Place}
use Rattle.akl_model.specs.declared.label.Label.{Label}
use Rattle.box_tree.specs.declared.inside.InnerBox.{InnerBox}
use Rattle.box_tree.specs.declared.inside.Inside.{Inside}
use Rattle.box_tree.specs.Tables.{TableValue, table_of}
use Rattle.box_tree.specs.Views.{ViewValue, is_there}
use Rattle.box_tree.specs.Insides.{IsCandidateOf}
use Rattle.box_copies.specs.Copies.{IsInsideOfBox, AreBoxesOf}
use Rattle.stable_test.specs.Seen.{NoneReadyInside}
use Rattle.idle_plan.specs.Idling.{IsAtRootBox}
use Rattle.step_commit.specs.Cores.{CoreValue}
use Rattle.place_steps.specs.declared.seen.Seen.{Seen}

-- the view of the place
abbrev pub view_in : Seen → ViewValue
view_in (Seen.Goal goal view) = view
view_in (Seen.Root view) = view
view_in (Seen.Still view boxes alternative) = view
view_in (Seen.Box view inside alternative still) = view

-- a box could be split at this alternative, if at any; of a goal nothing is said
abbrev pub IsCandidateAt : CoreValue → Place → Option Name → Type 0
IsCandidateAt c place alternative = (name : Name) → place ≡ Place.Box name → IsCandidateOf (table_of c.table) name alternative

-- the view is that of a box, which could be split at this alternative, if at any
pub record HasCandidate (v : ViewValue) (alternative : Option Name) : Type 0 where
  pub name : Name
  pub is_box : v.place ≡ Place.Box name
  pub candidate : IsCandidateOf (table_of v.table) name alternative

-- a root box that couldn't be split
pub record IsBareRoot (v : ViewValue) : Type 0 where
  pub root : IsAtRootBox v
  pub candidate : HasCandidate v None

-- no place inside of a box is ready, by a table and its journal; of a goal nothing is said
abbrev pub IsStillAt : TableValue → List Label → Place → Type 0
IsStillAt t journal place = (n : Name) → place ≡ Place.Box n → NoneReadyInside t journal n

-- a root box that could be split at this alternative, with all boxes inside it, where no place is ready
pub record IsStillRoot (v : ViewValue) (bs : List InnerBox) (alternative : Name) : Type 0 where
  pub root : length v.path ≡ 1
  pub boxes : AreBoxesOf v bs
  pub candidate : HasCandidate v (Some alternative)
  pub still : IsStillAt v.table v.journal v.place

-- a box with all that stands inside it
pub record IsSeenInside (v : ViewValue) (i : Inside) (alternative : Option Name) : Type 0 where
  pub inside : IsInsideOfBox v i
  pub candidate : HasCandidate v alternative

-- what was seen is what its view is of
abbrev pub IsSeen : Seen → Type 0
IsSeen (Seen.Goal goal view) = view.place ≡ Place.Goal goal
IsSeen (Seen.Root view) = IsBareRoot view
IsSeen (Seen.Still view boxes alternative) = IsStillRoot view boxes.items alternative
IsSeen (Seen.Box view inside alternative still) = IsSeenInside view inside alternative × (still ≡ true → IsStillAt view.table view.journal view.place)

-- the same of the state of a run
abbrev pub IsStillIn : CoreValue → Place → Type 0
IsStillIn c place = IsStillAt c.table c.journal place

-- a worker has looked at a place, which is there
pub record IsSight (c : CoreValue) (place : Place) (worker : ℕ) (v : ViewValue) : Type 0 where
  pub table : v.table ≡ c.table
  pub journal : v.journal ≡ c.journal
  pub is_place : v.place ≡ place
  pub seer : v.worker ≡ worker
  pub there : is_there (table_of c.table) place ≡ true

-- a worker saw a place, or the place isn't there
abbrev pub IsSeenBy : CoreValue → Place → ℕ → Option Seen → Type 0
IsSeenBy c place worker None = is_there (table_of c.table) place ≡ false
IsSeenBy c place worker (Some s) = IsSeen s × IsSight c place worker (view_in s)
