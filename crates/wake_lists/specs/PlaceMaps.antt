-- Values by places.
use Rattle.std.specs.Prelude.{◌≡◌, Option, if◌then◌else◌}
use Rattle.std.specs.Map.{lookup}
use Rattle.akl_terms.specs.declared.name.Place.{Place}
use Rattle.akl_terms.specs.Names.{same_name}
use Rattle.wake_lists.specs.declared.place_map.PlaceMap.{PlaceMap}
use Rattle.wake_lists.specs.Waits.{same_place}

module _ {V : Type 0} where
  abbrev pub value_at : PlaceMap V → Place → Option V
  value_at map (Place.Goal n) = lookup (same_name n) map.goals
  value_at map (Place.Box n) = lookup (same_name n) map.boxes

  -- one place has another value, or none
  abbrev pub FindsAt : PlaceMap V → PlaceMap V → Place → Option V → Type 0
  FindsAt old new p w = (q : Place) → value_at new q ≡ (if same_place p q then w else value_at old q)
