-- The steps of parts of a commit.
use Rattle.std.specs.Prelude.{◌≡◌, ℕ, ◌+◌, List, [], ◌∷◌, length, true}
use Rattle.akl_terms.specs.declared.name.Var.{Var}
use Rattle.akl_terms.specs.declared.name.Place.{Place}
use Rattle.akl_model.specs.Wakes.{Wait, IsKept, IsOneOf}
use Rattle.box_tree.specs.Plans.{PlanValue}
use Rattle.wake_lists.specs.Open.{Openings}
use Rattle.wake_lists.specs.Waits.{waits_on}
use Rattle.opened_places.specs.Placed.{PlacedValue, places_of}
use Rattle.scheduler.specs.Openings.{IsOpenAt}
use Rattle.scheduler.specs.Opening.{IsPlacedIn}
use Rattle.scheduler.specs.Schedulers.{SchedulerValue}
use Rattle.scheduler.specs.Once.{IsEachPlaceOnce}
use Rattle.scheduler.specs.Work.{IsEachWaitOnce, TakesSteps}

-- one for each place, and one for each box around it
abbrev pub place_steps : List PlacedValue → ℕ
place_steps [] = 0
place_steps (p ∷ ps) = 1 + length p.around + place_steps ps

-- so many are counted for one place: none where it is open
pub data OpensBySteps (before : Openings) (p : PlacedValue) (n now : ℕ) : Type 0 where
  was_open : IsOpenAt before p.place → now ≡ n → OpensBySteps before p n now
  is_new : (IsOpenAt before p.place → ⊥) → now ≡ n + (1 + length p.around) → OpensBySteps before p n now

-- and so many for some of these places, each once
pub record OpenSomeBySteps (places : List PlacedValue) (n now : ℕ) : Type 0 where
  pub some : List PlacedValue
  pub among : (p : PlacedValue) → IsPlacedIn p some → IsPlacedIn p places
  pub once : IsEachPlaceOnce (places_of some)
  pub steps : now ≡ n + place_steps some

-- one for each wait that these places had
pub record DropBySteps (ws : List (Var × List Place)) (places : List Place) (n now : ℕ) : Type 0 where
  pub taken : List Wait
  pub waited : (place : Place) (x : Var) → IsKept taken place x → waits_on ws place x ≡ true
  pub of_places : (place : Place) (x : Var) → IsKept taken place x → IsOneOf place places
  pub all : (place : Place) (x : Var) → waits_on ws place x ≡ true → IsOneOf place places → IsKept taken place x
  pub once : IsEachWaitOnce taken
  pub steps : now ≡ n + length taken

-- the steps of a commit behind the stamps
abbrev pub TakesLabelSteps : SchedulerValue → PlanValue → ℕ → ℕ → Type 0
TakesLabelSteps s p before now = TakesSteps s p before (now + length p.reads)
