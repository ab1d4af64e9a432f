-- What is listed is what changes.
use Rattle.std.specs.Prelude.{◌≡◌, List, Option, Some, option_map}
use Rattle.std.specs.List.{AllByRecursion}
use Rattle.akl_terms.specs.declared.name.Name.{Name}
use Rattle.akl_terms.specs.declared.name.Place.{Place}
use Rattle.akl_model.specs.declared.label.Label.{Label}
use Rattle.akl_model.specs.Config.{Config}
use Rattle.akl_model.specs.Wakes.{IsOneOf}
use Rattle.table_laws.specs.Rows.{Table}
use Rattle.table_laws.specs.Stamped.{IsTableOf}
use Rattle.table_laws.specs.Writes.{home_in, holder_in_row}
use Rattle.box_tree.specs.declared.step.Step.{Step}
use Rattle.box_tree.specs.Tables.{all_rules, TableValue, table_of, step_in}
use Rattle.box_tree.specs.Views.{run_of}
use Rattle.opened_places.specs.declared.around.Holder.{Holder}
use Rattle.opened_places.specs.declared.around.Around.{Around}
use Rattle.opened_places.specs.Changed.{IsChanged}
use Rattle.opened_places.specs.Leading.{LeadsTo}
use Rattle.opened_places.specs.Placed.{PlacedValue, places_of, StandsSo}

-- the box of a place, by a table's rows
abbrev pub site_in : Table → Place → Option Name
site_in T (Place.Goal g) = home_in (T.goal_of g)
site_in T (Place.Box n) = Some n

-- what stands about a label's place, by a table's rows
pub record IsAround (T : Table) (l : Label) (x : Around) : Type 0 where
  pub home : site_in T l.place ≡ Some x.home
  pub holder : option_map (λ (h : Holder). h.goal) x.holder ≡ holder_in_row (T.box_of x.home)
  pub holder_home : (h : Holder) → x.holder ≡ Some h → home_in (T.goal_of h.goal) ≡ Some h.home
  pub choice : (n : Name) → l.alternative ≡ Some n → x.choice ≡ holder_in_row (T.box_of n)

-- the places are exactly those that change
pub record AreExactly (c d : Config) (places : List Place) : Type 0 where
  pub listed : (place : Place) → IsChanged c d place → IsOneOf place places
  pub changed : (place : Place) → IsOneOf place places → IsChanged c d place

-- and each has the boxes around it that it has afterwards
pub record AreChangedTo (c d : Config) (places : List PlacedValue) : Type 0 where
  pub exactly : AreExactly c d (places_of places)
  pub around : AllByRecursion (StandsSo d.roots) places

-- so they are wherever the step leads on from the configuration of the table by the label, or by a call of which it is the first
abbrev pub AreChanged : TableValue → Label → Step → List PlacedValue → Type 0
AreChanged v l step places = (journal : List Label) (t : IsTableOf all_rules (run_of v journal) (table_of v)) (more : List Label) (d : Config)
    → LeadsTo v.program t.config l more (step_in v l step) d → AreChangedTo t.config d places
