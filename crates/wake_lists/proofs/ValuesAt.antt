-- Values by places, when that of one changes.
use Rattle.std.proofs.Common.{List, Option, refl, ◌∙◌}
use Rattle.std.specs.Prelude.{if◌then◌else◌}
use Rattle.std.specs.Map.{lookup}
use Rattle.akl_terms.specs.declared.name.Name.{Name}
use Rattle.akl_terms.specs.declared.name.Place.{Place}
use Rattle.akl_terms.specs.Names.{same_name}
use Rattle.name_map.specs.Entries.{Finds}
use Rattle.wake_lists.specs.declared.place_map.PlaceMap.{PlaceMap}
use Rattle.wake_lists.specs.PlaceMaps.{FindsAt}
use Rattle.wake_lists.proofs.Keys.{name_back}

module _ {V : Type 0} (map : PlaceMap V) (name : Name) (es : List (Name × V)) (w : Option V) where
  pub goal_changed : Finds map.goals es name w → FindsAt map (record map { goals = es }) (Place.Goal name) w
  goal_changed h (Place.Goal m) = h m ∙ (λ i. if name_back m name i then w else lookup (same_name m) map.goals)
  goal_changed h (Place.Box m) = refl

  pub box_changed : Finds map.boxes es name w → FindsAt map (record map { boxes = es }) (Place.Box name) w
  box_changed h (Place.Goal m) = refl
  box_changed h (Place.Box m) = h m ∙ (λ i. if name_back m name i then w else lookup (same_name m) map.boxes)
