-- How waits are kept.
use Rattle.std.specs.Prelude.{◌≡◌, List, Option, None, Some, Bool, false}
use Rattle.std.specs.List.{IsDistinct}
use Rattle.std.specs.Global.{Vec}
use Rattle.akl_terms.specs.declared.name.Var.{Var}
use Rattle.akl_terms.specs.declared.name.Place.{Place}
use Rattle.akl_terms.specs.Names.{same_var}
use Rattle.wake_lists.specs.declared.place_map.PlaceMap.{PlaceMap}
use Rattle.wake_lists.specs.PlaceMaps.{value_at}
use Rattle.wake_lists.specs.Waits.{waits_on, is_variable_in}

-- a place waits on a variable by the list of its own
abbrev pub lists : Var → Option (Vec Var) → Bool
lists x None = false
lists x (Some xs) = is_variable_in x xs.items

-- the same waits are kept by their places
abbrev pub AreBoth : List (Var × List Place) → PlaceMap (Vec Var) → Type 0
AreBoth ws map = (p : Place) (x : Var) → waits_on ws p x ≡ lists x (value_at map p)

-- and each of these lists has a variable once
pub record AreKeptBoth (ws : List (Var × List Place)) (map : PlaceMap (Vec Var)) : Type 0 where
  pub both : AreBoth ws map
  pub once : (p : Place) (xs : Vec Var) → value_at map p ≡ Some xs → IsDistinct same_var xs.items
