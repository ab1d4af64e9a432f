-- What a label does to places.
use Rattle.std.specs.Prelude.{List}
use Rattle.akl_terms.specs.declared.name.Place.{Place}
use Rattle.akl_model.specs.Config.{Config}
use Rattle.akl_model.specs.Wakes.{Wait, IsOneOf, IsThere, Opens}
use Rattle.opened_places.specs.Placed.{PlacedValue, places_of, StandsSo}
use Rattle.scheduler.specs.Opening.{IsPlacedIn}

-- from c to d a place comes to stand in these boxes, or goes from them
pub data StandsNow (c d : Config) (p : PlacedValue) : Type 0 where
  stands : StandsSo d.roots p → StandsNow c d p
  goes : (IsThere p.place d.roots → ⊥) → StandsSo c.roots p → StandsNow c d p

-- these are the places that are opened, where these waits are kept, each with the boxes around it
pub record AreOpenedBy (c d : Config) (kept : List Wait) (places : List PlacedValue) : Type 0 where
  pub listed : (place : Place) → Opens kept c d place → IsOneOf place (places_of places)
  pub opened : (place : Place) → IsOneOf place (places_of places) → Opens kept c d place
  pub around : (p : PlacedValue) → IsPlacedIn p places → StandsNow c d p
