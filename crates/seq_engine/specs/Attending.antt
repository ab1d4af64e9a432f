-- Open places that one worker looks at in turn.
use Rattle.std.specs.Prelude.{◌≡◌, ◌<◌, ℕ, false, Option, Some, None}
use Rattle.akl_terms.specs.declared.name.Place.{Place}
use Rattle.akl_model.specs.Config.{Found, site_of}
use Rattle.box_tree.specs.Plans.{PlanValue}
use Rattle.idle_places.specs.Idling.{IdleValue}
use Rattle.idle_places.specs.Later.{HasNoReason}
use Rattle.wake_lists.specs.Open.{Opening, opening_at, untimed}
use Rattle.step_commit.specs.Cores.{TableIn}
use Rattle.scheduler.specs.Openings.{IsOpenAt}
use Rattle.scheduler.specs.Resting.{IsAtRest}
use Rattle.scheduler.specs.Schedulers.{SchedulerValue}
use Rattle.scheduler.specs.Weights.{weight}
use Rattle.place_steps.specs.declared.next.Next.{Next}
use Rattle.seq_engine.specs.declared.attending.Attended.{Attended}
use Rattle.seq_engine.specs.Runs.{IsPlanNow, IsQuiet}

-- the token leads to the place
pub record IsOpenUnder (s : SchedulerValue) (token : ℕ) (place : Place) : Type 0 where
  pub opening : Opening
  pub is_open : opening_at token s.openings ≡ Some opening
  pub of_place : opening.place ≡ place

-- so does it, and nothing is open in this
pub record IsUnderAtRest (s : SchedulerValue) (found : ℕ × Place) : Type 0 where
  pub is_open : IsOpenUnder s found.0 found.1
  pub at_rest : IsAtRest s.openings found.1

-- an open place, or none is open
abbrev pub HasFirst : SchedulerValue → Option (ℕ × Place) → Type 0
HasFirst s None = IsQuiet s.core
HasFirst s (Some first) = IsOpenUnder s first.0 first.1

-- the same places are open in the same boxes; only when each comes may differ
pub record HasWaited (s d : SchedulerValue) : Type 0 where
  pub core : d.core ≡ s.core
  pub places : untimed d.openings ≡ untimed s.openings

-- an open place was closed, and at most a box was opened that stands in fewer boxes
pub record HasClosed (s d : SchedulerValue) : Type 0 where
  pub core : d.core ≡ s.core
  pub lighter : weight d.openings < weight s.openings

-- an open place in which nothing is open was found idle by all of the journal
pub record IsIdleNow (s : SchedulerValue) (i : IdleValue) : Type 0 where
  pub table : i.table ≡ s.core.table
  pub journal : i.journal ≡ s.core.journal
  pub is_open : IsOpenAt s.openings i.place
  pub at_rest : IsAtRest s.openings i.place
  pub no_reason : i.inside ≡ false → (t : TableIn s.core) (f : Found) → site_of i.place t.config.roots ≡ Some f → HasNoReason f

-- a plan was made of all of the journal, or an open place in which nothing is open was found idle by it
abbrev pub IsNextNow : SchedulerValue → Next → Type 0
IsNextNow s (Next.Plan p) = IsPlanNow s.core p
IsNextNow s (Next.Idle i) = IsIdleNow s i

-- the journal has a plan, or no place changed
abbrev pub HasTried : SchedulerValue → SchedulerValue → Option PlanValue → Type 0
HasTried s d None = HasWaited s d
HasTried s d (Some p) = (d.core ≡ s.core) × IsPlanNow d.core p

abbrev pub HasAttended : SchedulerValue → SchedulerValue → Attended → Type 0
HasAttended s d Attended.Quiet = (d.core ≡ s.core) × IsQuiet d.core
HasAttended s d (Attended.Planned p) = (d.core ≡ s.core) × IsPlanNow d.core p
HasAttended s d Attended.Closed = HasClosed s d

-- something came of an open place, or it waits behind all others
abbrev pub HasCome : SchedulerValue → SchedulerValue → Option Attended → Type 0
HasCome s d None = HasWaited s d
HasCome s d (Some a) = HasAttended s d a

abbrev pub HasPlan : SchedulerValue → SchedulerValue → Option PlanValue → Type 0
HasPlan s d None = (d.core ≡ s.core) × IsQuiet d.core
HasPlan s d (Some p) = (d.core ≡ s.core) × IsPlanNow d.core p
