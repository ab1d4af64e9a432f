-- The places that go with a step.
use Rattle.std.specs.Prelude.{◌≡◌, List, [], ◌∷◌, ◌++◌, map}
use Rattle.akl_terms.specs.declared.name.Name.{Name}
use Rattle.akl_terms.specs.declared.name.Place.{Place}
use Rattle.akl_model.specs.declared.label.Label.{Label}
use Rattle.akl_model.specs.Config.{Config}
use Rattle.akl_model.specs.Wakes.{IsOneOf}
use Rattle.table_laws.specs.Rows.{Table}
use Rattle.table_laws.specs.Walks.{ListsEach}
use Rattle.table_laws.specs.Stamped.{IsTableOf}
use Rattle.table_laws.specs.Steps as laws
use Rattle.table_laws.specs.Going.{IsGone}
use Rattle.box_tree.specs.declared.step.Step.{Step}
use Rattle.box_tree.specs.Tables.{all_rules, TableValue, table_of, step_in, goals_in}
use Rattle.box_tree.specs.Views.{run_of}
use Rattle.opened_places.specs.Leading.{LeadsTo}

-- the places are exactly those that go
pub record AreAllGone (c d : Config) (places : List Place) : Type 0 where
  pub listed : (place : Place) → IsGone c d place → IsOneOf place places
  pub gone : (place : Place) → IsOneOf place places → IsGone c d place

-- so they are wherever the step leads on from the configuration of the table by the label, or by a call of which it is the first
abbrev pub AreGone : TableValue → Label → Step → List Place → Type 0
AreGone v l step places = (journal : List Label) (t : IsTableOf all_rules (run_of v journal) (table_of v)) (more : List Label) (d : Config)
    → LeadsTo v.program t.config l more (step_in v l step) d → AreAllGone t.config d places

-- by the step: the goal of the place, where it goes by itself
abbrev pub own_places : Place → laws.Step → List Place
own_places place (laws.tells new solved) = place ∷ []
own_places place (laws.forks op news) = []
own_places place laws.fails = []
own_places place laws.cuts = []
own_places place (laws.joins new solved goals) = place ∷ []
own_places place laws.refutes = []
own_places place laws.confirms = place ∷ []
own_places place (laws.splits copy copies) = []

-- goals by their names, and boxes, each with the goals directly in it
abbrev pub goals_named : List Name → List Place
goals_named names = map (λ (g : Name). Place.Goal g) names

abbrev pub places_at : Table → List Name → List Place
places_at T [] = []
places_at T (n ∷ ns) = Place.Box n ∷ (goals_named (goals_in (T.box_of n)) ++ places_at T ns)

-- these boxes, and all that stands in them, come to the end of the places
pub record AddsInsideEach (T : Table) (tops : List Name) (before now : List Place) : Type 0 where
  pub boxes : List Name
  pub lists : ListsEach T tops boxes
  pub comes : now ≡ before ++ places_at T boxes
