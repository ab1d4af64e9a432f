-- How much work a commit has, and how many steps it takes for it.
use Rattle.std.specs.Prelude.{◌≡◌, ℕ, ◌+◌, ◌≤◌, List, [], ◌∷◌, length, ⊤}
use Rattle.akl_terms.specs.declared.name.Var.{Var}
use Rattle.akl_terms.specs.declared.name.Place.{Place}
use Rattle.akl_model.specs.Config.{Config}
use Rattle.akl_model.specs.Derivations.{Derives}
use Rattle.akl_model.specs.Wakes.{Wait, IsKept, IsOneOf, Opens}
use Rattle.table_laws.specs.Going.{IsGone}
use Rattle.box_tree.specs.declared.step.Step.{Step}
use Rattle.box_tree.specs.declared.step.NewBox.{NewBox}
use Rattle.box_tree.specs.declared.step.BoxCopy.{BoxCopy}
use Rattle.box_tree.specs.Tables.{all_rules}
use Rattle.box_tree.specs.Plans.{PlanValue}
use Rattle.opened_places.specs.Placed.{PlacedValue, places_of}
use Rattle.step_commit.specs.Cores.{TableIn}
use Rattle.scheduler.specs.Opening.{IsPlacedIn}
use Rattle.scheduler.specs.Once.{IsEachPlaceOnce}
use Rattle.scheduler.specs.Openings.{AreListed}
use Rattle.scheduler.specs.Effects.{StandsNow}
use Rattle.scheduler.specs.Schedulers.{SchedulerValue}

-- how much work a commit has
pub record Work : Type 0 where
  -- the items that its plan read
  pub reads : ℕ
  -- the labels that it makes behind its first one
  pub labels : ℕ
  -- the contents that it writes, and the places that it takes away
  pub writes : ℕ
  -- the places that it opens
  pub opened : ℕ
  -- the boxes around each of these, together
  pub around : ℕ
  -- the waits of places that it opens or takes away
  pub waits : ℕ

-- a step for each
abbrev pub steps_of : Work → ℕ
steps_of w = w.reads + w.labels + w.writes + w.opened + w.around + w.waits

-- the contents that a step writes: its stores and its goals
abbrev pub boxes_written : List NewBox → ℕ
boxes_written [] = 0
boxes_written (n ∷ ns) = 1 + length n.goals.items + boxes_written ns

abbrev pub copies_written : List BoxCopy → ℕ
copies_written [] = 0
copies_written (k ∷ ks) = 1 + length k.goals.items + copies_written ks

abbrev pub contents : Step → ℕ
contents (Step.Tell store solved) = 1
contents (Step.Join store solved goals told behind) = 1 + length goals.items
contents (Step.Fork op alternatives) = 1 + boxes_written alternatives.items
contents (Step.Split copy copies) = copies_written copies.items
contents Step.Refute = 1
contents Step.Fail = 0
contents Step.Cut = 0
contents Step.Confirm = 0

-- no wait stands twice in a list
abbrev pub IsEachWaitOnce : List Wait → Type 0
IsEachWaitOnce [] = ⊤
IsEachWaitOnce (w ∷ ws) = (IsKept ws w.place w.on → ⊥) × IsEachWaitOnce ws

-- a commit that leads from c to d opens the place, which stands in these boxes
pub record IsOpenedWith (kept : List Wait) (c d : Config) (p : PlacedValue) : Type 0 where
  pub opens : Opens kept c d p.place
  pub around : StandsNow c d p

-- the waits of a place come to their end where the commit opens it or takes it away
pub data EndsWaits (kept : List Wait) (c d : Config) (place : Place) : Type 0 where
  opens : Opens kept c d place → EndsWaits kept c d place
  goes : IsGone c d place → EndsWaits kept c d place

-- the boxes around these places, together
abbrev pub boxes_around_all : List PlacedValue → ℕ
boxes_around_all [] = 0
boxes_around_all (p ∷ ps) = length p.around + boxes_around_all ps

-- the work of a commit that leads from c to d by this step, where these waits are kept: no place is counted that it doesn't take away or open, no wait
-- that doesn't come to its end, and nothing twice
pub record IsLabelWork (kept : List Wait) (c d : Config) (step : Step) (w : Work) : Type 0 where
  pub gone : List Place
  pub each_goes : (place : Place) → IsOneOf place gone → IsGone c d place
  pub gone_once : IsEachPlaceOnce gone
  pub writes : w.writes ≡ contents step + length gone
  pub places : List PlacedValue
  pub each_opens : (p : PlacedValue) → IsPlacedIn p places → IsOpenedWith kept c d p
  pub places_once : IsEachPlaceOnce (places_of places)
  pub opened : w.opened ≡ length places
  pub around : w.around ≡ boxes_around_all places
  pub ended : List Wait
  pub each_kept : (place : Place) (x : Var) → IsKept ended place x → IsKept kept place x
  pub each_ends : (place : Place) (x : Var) → IsKept ended place x → EndsWaits kept c d place
  pub ended_once : IsEachWaitOnce ended
  pub waits : w.waits ≡ length ended

-- the work of a plan's commit: it only looks at the items that the plan read, or the plan's labels lead on, and it does what these do, too
pub data IsWorkOf (s : SchedulerValue) (p : PlanValue) (w : Work) : Type 0 where
  looks : w ≡ record { reads = length p.reads; labels = 0; writes = 0; opened = 0; around = 0; waits = 0 } → IsWorkOf s p w
  labels : (t : TableIn s.core) (d : Config) (kept : List Wait) → Derives all_rules s.core.table.program t.config (p.label ∷ p.more) d → AreListed s.waits kept → w.reads ≡ length p.reads → w.labels ≡ length p.more
      → IsLabelWork kept t.config d p.step w → IsWorkOf s p w

-- a commit counts no more steps than it has work
pub record TakesSteps (s : SchedulerValue) (p : PlanValue) (before now : ℕ) : Type 0 where
  pub work : Work
  pub is_work : IsWorkOf s p work
  pub within : now ≤ before + steps_of work
