-- The places inside a box.
use Rattle.std.specs.Prelude.{◌≡◌, List, [], ◌∷◌, ◌++◌, if◌then◌else◌}
use Rattle.std.specs.List.{AllByRecursion}
use Rattle.akl_terms.specs.declared.name.Name.{Name}
use Rattle.akl_terms.specs.declared.name.Place.{Place}
use Rattle.akl_terms.specs.Names.{same_name}
use Rattle.akl_model.specs.Config.{Boxes}
use Rattle.akl_model.specs.Wakes.{IsOneOf, StandsIn}
use Rattle.table_laws.specs.Stamped.{Run, IsTableOf}
use Rattle.box_tree.specs.Tables.{all_rules, TableValue, table_of, goals_in}
use Rattle.box_tree.specs.Paths.{IsPath}
use Rattle.opened_places.specs.Placed.{PlacedValue, placed, places_of, StandsSo, all_but_last, goals_placed}

-- among these root boxes the places are exactly those that stand in the box or inside it, each with the boxes around it
pub record AreAllInside (roots : Boxes) (n : Name) (places : List PlacedValue) : Type 0 where
  pub listed : (place : Place) → StandsIn n roots place → IsOneOf place (places_of places)
  pub inside : (place : Place) → IsOneOf place (places_of places) → StandsIn n roots place
  pub around : AllByRecursion (StandsSo roots) places

-- so they are in the configuration of the table
abbrev pub AreInside : TableValue → Name → List PlacedValue → Type 0
AreInside v n places = (run : Run) (t : IsTableOf all_rules run (table_of v)) → AreAllInside t.config.roots n places

-- a box inside another one, by the boxes down to it, or nothing where it is this itself
abbrev pub box_placed : Name → Name → List Name → List PlacedValue
box_placed outer n path = if same_name n outer then [] else placed (Place.Box n) (all_but_last path) ∷ []

-- and with it the goals directly in it
abbrev pub inner_placed : Name → Name → List Name → List Name → List PlacedValue
inner_placed outer n path goals = box_placed outer n path ++ goals_placed path goals

abbrev pub AddsInner : TableValue → Name → Name → List PlacedValue → List PlacedValue → Type 0
AddsInner v outer n before afterwards = (path : List Name) × IsPath (table_of v) n path × (afterwards ≡ before ++ inner_placed outer n path (goals_in ((table_of v).box_of n)))

-- boxes one after another
abbrev pub AddsEach : TableValue → Name → List Name → List PlacedValue → List PlacedValue → Type 0
AddsEach v outer [] before afterwards = afterwards ≡ before
AddsEach v outer (n ∷ ns) before afterwards = (next : List PlacedValue) × AddsInner v outer n before next × AddsEach v outer ns next afterwards
