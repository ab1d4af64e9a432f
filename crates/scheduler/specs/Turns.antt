-- Which open places come first.
use Rattle.std.specs.Prelude.{◌≡◌, ℕ, List, [], ◌∷◌, ◌++◌, Option, None, Some, Bool, true, false, not, ◌||◌, if◌then◌else◌}
use Rattle.akl_terms.specs.declared.name.Name.{Name}
use Rattle.akl_terms.specs.declared.name.Place.{Place}
use Rattle.akl_terms.specs.Names.{same_name}
use Rattle.akl_model.specs.Config.{IsIn}
use Rattle.akl_model.specs.Wakes.{IsOneOf}
use Rattle.box_tree.specs.declared.step.NewBox.{NewBox}
use Rattle.box_tree.specs.declared.step.Step.{Step}
use Rattle.box_tree.specs.declared.view.Sight.{Sight}
use Rattle.box_tree.specs.Tables.{TableValue, table_of}
use Rattle.box_tree.specs.Paths.{sight_in}
use Rattle.box_tree.specs.Plans.{PlanValue}
use Rattle.opened_places.specs.declared.around.Around.{Around}
use Rattle.opened_places.specs.Exact.{IsAround}
use Rattle.wake_lists.specs.declared.turn.Urgency.{Urgency}
use Rattle.wake_lists.specs.Open.{Opening, Openings, opening_at}
use Rattle.scheduler.specs.declared.turns.TurnHints.{TurnHints}

-- by what is seen of a place: a box that has a goal by which it fails is urgent
abbrev pub urgency_by : Sight → Urgency
urgency_by (Sight.Atom atom) = Urgency.Ordinary
urgency_by (Sight.Choice op) = Urgency.Ordinary
urgency_by (Sight.Box None) = Urgency.Ordinary
urgency_by (Sight.Box (Some goal)) = Urgency.Urgent

abbrev pub urgency_seen : Option (Name × Sight) → Urgency
urgency_seen None = Urgency.Ordinary
urgency_seen (Some seen) = urgency_by seen.1

abbrev pub is_urgent : Urgency → Bool
is_urgent Urgency.Urgent = true
is_urgent Urgency.Ordinary = false
is_urgent Urgency.Late = false

-- the box that a step tells something, where its label's place is this box or stands in it
abbrev pub told_by : Name → Step → Option Name
told_by home (Step.Tell store solved) = Some home
told_by home (Step.Join store solved goals told behind) = Some home
told_by home (Step.Fork op alternatives) = None
told_by home Step.Fail = None
told_by home Step.Cut = None
told_by home Step.Refute = None
told_by home Step.Confirm = None
told_by home (Step.Split copy copies) = None

abbrev pub unless_solved : Bool → Name → List Name
unless_solved solved n = if solved then [] else n ∷ []

abbrev pub unsolved_among : List NewBox → List Name
unsolved_among [] = []
unsolved_among (b ∷ bs) = unless_solved b.solved b.name ++ unsolved_among bs

-- the boxes whose stores a step leaves unsolved
abbrev pub unsolved_by : Name → Step → List Name
unsolved_by home (Step.Tell store solved) = unless_solved solved home
unsolved_by home (Step.Join store solved goals told behind) = unless_solved solved home
unsolved_by home (Step.Fork op alternatives) = unsolved_among alternatives.items
unsolved_by home Step.Fail = []
unsolved_by home Step.Cut = []
unsolved_by home Step.Refute = []
unsolved_by home Step.Confirm = []
unsolved_by home (Step.Split copy copies) = []

-- another box was told something, with which this one may clash
abbrev pub is_elsewhere : Option Name → Name → Bool
is_elsewhere None n = false
is_elsewhere (Some home) n = not (same_name home n)

-- a box that a label opens may fail, by what is seen of it, or since another box was told something
abbrev pub may_fail : TableValue → Option Name → Place → Bool
may_fail v told (Place.Goal g) = false
may_fail v told (Place.Box n) = is_elsewhere told n || is_urgent (urgency_seen (sight_in v (Place.Box n)))

-- a place is urgent, if it is open
pub record IsUrgentAt (os : Openings) (place : Place) : Type 0 where
  pub each : (t : ℕ) (o : Opening) → opening_at t os ≡ Some o → o.place ≡ place → o.turn.urgency ≡ Urgency.Urgent

-- so are those of these places that may fail
pub record AreUrgent (v : TableValue) (told : Option Name) (places : List Place) (os : Openings) : Type 0 where
  pub each : (place : Place) → IsOneOf place places → may_fail v told place ≡ true → IsUrgentAt os place

-- and these boxes
pub record AreUrgentBoxes (names : List Name) (os : Openings) : Type 0 where
  pub each : (n : Name) → IsIn n names → IsUrgentAt os (Place.Box n)

-- what urgent places are in the one are so in the other
abbrev pub StayUrgent : Openings → Openings → Type 0
StayUrgent before now = (place : Place) → IsUrgentAt before place → IsUrgentAt now place

-- the same of boxes alone
abbrev pub BoxesStayUrgent : Openings → Openings → Type 0
BoxesStayUrgent before now = (n : Name) → IsUrgentAt before (Place.Box n) → IsUrgentAt now (Place.Box n)

-- what a step tells of turns
pub record AreHints (home : Name) (step : Step) (h : TurnHints) : Type 0 where
  pub told : h.told ≡ told_by home step
  pub unsolved : h.unsolved.items ≡ unsolved_by home step

-- the same for what stands about a plan's label
pub record AreHintsFor (v : TableValue) (p : PlanValue) (h : TurnHints) : Type 0 where
  pub around : Around
  pub is_around : IsAround (table_of v) p.label around
  pub hints : AreHints around.home p.step h
