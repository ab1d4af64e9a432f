-- Places that are opened together.
use Rattle.std.specs.Prelude.{◌≡◌, ℕ, List, [], ◌∷◌, ◌++◌, Some, None, IsSome, ◌⊎◌}
use Rattle.std.specs.BTreeMap.{insert_entry}
use Rattle.std.specs.Ordering.{nat_cmp}
use Rattle.akl_terms.specs.declared.name.Place.{Place}
use Rattle.akl_model.specs.Wakes.{IsOneOf}
use Rattle.opened_places.specs.Placed.{PlacedValue, placed, places_of}
use Rattle.wake_lists.specs.Open.{Opening, Openings, opening_at, IsLeastToken, closed}
use Rattle.scheduler.specs.Openings.{IsOpenAt, AreApart, IsNumberIn, IsEachOnce, AreFirstTokens, AreOpenOnce}

abbrev pub IsPlacedIn : PlacedValue → List PlacedValue → Type 0
IsPlacedIn p [] = ⊥
IsPlacedIn p (q ∷ qs) = (p ≡ q) ⊎ IsPlacedIn p qs

-- the last of these tokens is closed first
abbrev pub closed_back : List ℕ → Openings → Openings
closed_back [] os = os
closed_back (t ∷ ts) os = closed t (closed_back ts os)

-- what is open under a token that wasn't used is one of these places, which wasn't open before, in the boxes around it
pub record IsNewOpening (before : Openings) (places : List PlacedValue) (tokens : List ℕ) (t : ℕ) (o : Opening) : Type 0 where
  pub unused : opening_at t before ≡ None
  pub unopened : IsOpenAt before o.place → ⊥
  pub is_placed : IsPlacedIn (placed o.place o.boxes) places
  pub listed : IsNumberIn t tokens

-- these places are opened: what was open stays, each of them that wasn't gets a token of its own, which leaves no gap, and closing these undoes it
pub record AreOpened (before : Openings) (places : List PlacedValue) (now : Openings) (tokens : List ℕ) : Type 0 where
  pub stays : (t : ℕ) (o : Opening) → opening_at t before ≡ Some o → opening_at t now ≡ Some o
  pub each : (t : ℕ) (o : Opening) → opening_at t now ≡ Some o → (opening_at t before ≡ Some o) ⊎ IsNewOpening before places tokens t o
  pub all : (place : Place) → IsOneOf place (places_of places) → IsOpenAt now place
  pub new : (t : ℕ) → IsNumberIn t tokens → (opening_at t before ≡ None) × IsSome (opening_at t now)
  pub once : IsEachOnce tokens
  pub apart : AreApart before → AreApart now
  pub first : AreFirstTokens before → AreFirstTokens now
  pub places_once : AreOpenOnce before → AreOpenOnce now
  pub undone : closed_back tokens now ≡ before

-- one place is opened, under the least token that is free, unless it is open
pub data IsOpenedBy (before : Openings) (tokens : List ℕ) (p : PlacedValue) (now : Openings) (tokens_now : List ℕ) : Type 0 where
  was_open : IsOpenAt before p.place → now ≡ before → tokens_now ≡ tokens → IsOpenedBy before tokens p now tokens_now
  is_new : (t : ℕ) (o : Opening) → (IsOpenAt before p.place → ⊥) → IsLeastToken before t → placed o.place o.boxes ≡ p → now ≡ insert_entry nat_cmp before t o → tokens_now ≡ tokens ++ t ∷ []
      → IsOpenedBy before tokens p now tokens_now
