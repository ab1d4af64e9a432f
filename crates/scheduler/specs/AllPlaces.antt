-- All places of a core: with the boxes around them, and open.
use Rattle.std.specs.Prelude.{◌≡◌, ℕ, List, Some}
use Rattle.akl_terms.specs.declared.name.Place.{Place}
use Rattle.akl_model.specs.Wakes.{boxes_around, IsOneOf, IsThere}
use Rattle.opened_places.specs.Placed.{PlacedValue, places_of, StandsSo}
use Rattle.wake_lists.specs.Open.{Opening, Openings, opening_at}
use Rattle.step_commit.specs.Cores.{CoreValue, TableIn}
use Rattle.scheduler.specs.Openings.{IsOpenAt, AreApart, AreFirstTokens, AreOpenOnce}
use Rattle.scheduler.specs.Opening.{IsPlacedIn}

-- each place that is there, and each with the boxes around it
pub record AreAllPlaced (c : CoreValue) (places : List PlacedValue) : Type 0 where
  pub all : (t : TableIn c) (place : Place) → IsThere place t.config.roots → IsOneOf place (places_of places)
  pub around : (t : TableIn c) (p : PlacedValue) → IsPlacedIn p places → StandsSo t.config.roots p

-- each of them is open, and nothing else, under the first tokens
pub record AreAllOpen (c : CoreValue) (os : Openings) : Type 0 where
  pub all : (t : TableIn c) (place : Place) → IsThere place t.config.roots → IsOpenAt os place
  pub around : (t : TableIn c) (token : ℕ) (o : Opening) → opening_at token os ≡ Some o → boxes_around o.place t.config.roots ≡ Some o.boxes
  pub apart : AreApart os
  pub tokens : AreFirstTokens os
  pub once : AreOpenOnce os
