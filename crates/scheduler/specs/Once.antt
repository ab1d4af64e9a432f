-- Places that are listed once.
use Rattle.std.specs.Prelude.{◌≡◌, List, [], ◌∷◌, ◌++◌, ◌||◌, if◌then◌else◌, ⊤}
use Rattle.akl_terms.specs.declared.name.Place.{Place}
use Rattle.akl_model.specs.Wakes.{IsOneOf}
use Rattle.wake_lists.specs.Waits.{same_place}
use Rattle.scheduler.specs.Dropping.{is_place_in}

-- none stands twice in a list
abbrev pub IsEachPlaceOnce : List Place → Type 0
IsEachPlaceOnce [] = ⊤
IsEachPlaceOnce (p ∷ ps) = (IsOneOf p ps → ⊥) × IsEachPlaceOnce ps

-- the same places, each once
pub record AreSameOnce (places once : List Place) : Type 0 where
  pub all : (place : Place) → IsOneOf place places → IsOneOf place once
  pub only : (place : Place) → IsOneOf place once → IsOneOf place places
  pub is_once : IsEachPlaceOnce once

-- a place comes to the end of a list, unless it was seen
pub record AddsNew (place : Place) (seen before seen_now now : List Place) : Type 0 where
  pub is_seen : (p : Place) → is_place_in p seen_now ≡ (same_place place p || is_place_in p seen)
  pub comes : now ≡ (if is_place_in place seen then before else before ++ place ∷ [])
