-- Places that come to a list with the boxes around them.
use Rattle.std.specs.Prelude.{◌≡◌, List, [], ◌∷◌, ◌++◌, Some, None}
use Rattle.akl_terms.specs.declared.name.Name.{Name}
use Rattle.akl_terms.specs.declared.name.Place.{Place}
use Rattle.box_tree.specs.Tables.{TableValue}
use Rattle.opened_places.specs.Placed.{PlacedValue, placed, HasAround}

-- a place that is there comes to the end of a list, and another one doesn't
pub data AddsPlaced (v : TableValue) (place : Place) (before now : List PlacedValue) : Type 0 where
  comes : (around : List Name) → HasAround v place (Some around) → now ≡ before ++ placed place around ∷ [] → AddsPlaced v place before now
  isnt_there : HasAround v place None → now ≡ before → AddsPlaced v place before now

-- so do these, one after another
abbrev pub AddsThose : TableValue → List Place → List PlacedValue → List PlacedValue → Type 0
AddsThose v [] before now = now ≡ before
AddsThose v (p ∷ ps) before now = (next : List PlacedValue) × AddsPlaced v p before next × AddsThose v ps next now
