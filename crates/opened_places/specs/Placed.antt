-- Places with the boxes around them.
use Rattle.std.specs.Prelude.{◌≡◌, List, [], ◌∷◌, map, Option, Some}
use Rattle.akl_terms.specs.declared.name.Name.{Name}
use Rattle.akl_terms.specs.declared.name.Place.{Place}
use Rattle.akl_model.specs.Config.{Boxes}
use Rattle.akl_model.specs.Wakes.{boxes_around}
use Rattle.table_laws.specs.Stamped.{Run, IsTableOf}
use Rattle.box_tree.specs.Tables.{all_rules, TableValue, table_of}

-- a place, and boxes from the outermost on
pub record PlacedValue : Type 0 where
  pub place : Place
  pub around : List Name

abbrev pub placed : Place → List Name → PlacedValue
placed place around = record { place = place; around = around }

abbrev pub places_of : List PlacedValue → List Place
places_of ps = map (λ (p : PlacedValue). p.place) ps

-- among these root boxes the place is there, and these are the boxes around it
abbrev pub StandsSo : Boxes → PlacedValue → Type 0
StandsSo roots p = boxes_around p.place roots ≡ Some p.around

-- these are the boxes around a place in the configuration of a table, none where it isn't there
abbrev pub HasAround : TableValue → Place → Option (List Name) → Type 0
HasAround v place names = (run : Run) (t : IsTableOf all_rules run (table_of v)) → boxes_around place t.config.roots ≡ names

-- the boxes down to a box without it
abbrev pub all_but_last : List Name → List Name
all_but_last [] = []
all_but_last (n ∷ []) = []
all_but_last (n ∷ m ∷ ms) = n ∷ all_but_last (m ∷ ms)

-- goals that stand directly in the last of these boxes
abbrev pub goals_placed : List Name → List Name → List PlacedValue
goals_placed around goals = map (λ (g : Name). placed (Place.Goal g) around) goals
