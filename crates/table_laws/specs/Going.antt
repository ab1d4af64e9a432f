-- Which places go with a label, by its step and a table's rows.
use Rattle.std.specs.Prelude.{◌≡◌, List, [], ◌∷◌, Option, Some, ◌⊎◌, ⊤, slice_index}
use Rattle.akl_terms.specs.declared.name.Name.{Name}
use Rattle.akl_terms.specs.declared.name.Place.{Place}
use Rattle.akl_model.specs.declared.label.Rule.{Rule}
use Rattle.akl_model.specs.declared.label.Label.{Label}
use Rattle.akl_model.specs.Config.{IsIn, Config}
use Rattle.akl_model.specs.Derivations.{Applies}
use Rattle.akl_model.specs.Wakes.{IsThere}
use Rattle.table_laws.specs.Rows.{Table}
use Rattle.table_laws.specs.Stamped.{Run, IsTableOf}
use Rattle.table_laws.specs.Inside.{IsDirectlyIn}
use Rattle.table_laws.specs.Walks.{alternatives_of, ListsEach}
use Rattle.table_laws.specs.Steps.{Step, tells, forks, fails, cuts, joins, refutes, confirms, splits, Makes}
use Rattle.table_laws.specs.Writes.{cut_from, others_beside, IsInsideOne, IsGoalInsideOne}

-- a place was there, and isn't any more
pub record IsGone (c d : Config) (place : Place) : Type 0 where
  pub was : IsThere place c.roots
  pub gone : IsThere place d.roots → ⊥

-- the goal of the place goes with the step
abbrev pub OwnGoalGoes : Step → Type 0
OwnGoalGoes (tells new solved) = ⊤
OwnGoalGoes (joins new solved goals) = ⊤
OwnGoalGoes confirms = ⊤
OwnGoalGoes step = ⊥

-- the boxes that go, each with all that stands inside it: that of the place; the alternatives for which a solved one leaves no room; the alternatives
-- that join their box, inside which nothing stands; and the others beside the alternative of a split
abbrev pub boxes_going : Table → Step → Place → Option Name → List Name
boxes_going T (tells new solved) place alternative = []
boxes_going T (forks op news) place alternative = []
boxes_going T refutes place alternative = []
boxes_going T confirms place alternative = []
boxes_going T fails (Place.Box n) alternative = n ∷ []
boxes_going T cuts (Place.Goal g) (Some n) = cut_from n (T.goal_of g)
boxes_going T (joins new solved goals) (Place.Goal g) alternative = alternatives_of (T.goal_of g)
boxes_going T (splits copy copies) (Place.Box n) (Some a) = others_beside T a
boxes_going T step place alternative = []

abbrev pub GoesWith : Table → Label → Step → Place → Type 0
GoesWith T l step (Place.Box m) = IsInsideOne T (boxes_going T step l.place l.alternative) m
GoesWith T l step (Place.Goal g) = (OwnGoalGoes step × (l.place ≡ Place.Goal g)) ⊎ IsGoalInsideOne T (boxes_going T step l.place l.alternative) g

-- these places go, and no others
abbrev pub GoneLaw : Type 0
GoneLaw = (rules : List Rule) (r : Run) (T : Table) (l : Label) (d : Config) (t : IsTableOf rules r T) (a : Applies rules r.program t.config l d) (step : Step)
    → Makes r.program l (slice_index t.config.next l.worker) a.site step → (place : Place) → (IsGone t.config d place → GoesWith T l step place) × (GoesWith T l step place → IsGone t.config d place)

-- a place is one of these boxes, or a goal directly in one of them
abbrev pub IsOfBoxes : Table → List Name → Place → Type 0
IsOfBoxes T names (Place.Box m) = IsIn m names
IsOfBoxes T names (Place.Goal g) = (m : Name) × IsIn m names × IsDirectlyIn T m g

-- so they are listed by the boxes that go and those inside them
abbrev pub GoneListedLaw : Type 0
GoneListedLaw = (rules : List Rule) (r : Run) (T : Table) (l : Label) (d : Config) (t : IsTableOf rules r T) (a : Applies rules r.program t.config l d) (step : Step)
    → Makes r.program l (slice_index t.config.next l.worker) a.site step → (names : List Name) → ListsEach T (boxes_going T step l.place l.alternative) names → (place : Place)
    → (IsGone t.config d place → (OwnGoalGoes step × (place ≡ l.place)) ⊎ IsOfBoxes T names place) × ((OwnGoalGoes step × (place ≡ l.place)) ⊎ IsOfBoxes T names place → IsGone t.config d place)
