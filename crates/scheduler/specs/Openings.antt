-- Open places and kept waits: lists of them, and how they stand in a configuration.
use Rattle.std.specs.Prelude.{◌≡◌, ℕ, ◌<◌, List, [], ◌∷◌, length, true, Option, Some, None, IsSome, ⊤, ◌⊎◌, ◌↔◌}
use Rattle.akl_terms.specs.declared.name.Name.{Name}
use Rattle.akl_terms.specs.declared.name.Var.{Var}
use Rattle.akl_terms.specs.declared.name.Place.{Place}
use Rattle.akl_model.specs.Config.{Config}
use Rattle.akl_model.specs.Wakes.{boxes_around, StandsIn, Wait, IsKept, IsOneOf, IsThere}
use Rattle.step_laws.specs.Likeness.{IsOld}
use Rattle.wake_lists.specs.Open.{Opening, Openings, opening_at}
use Rattle.wake_lists.specs.Standing.{is_in}
use Rattle.wake_lists.specs.Waits.{waits_on}

-- a place is open, under a token
pub record IsOpenAt (os : Openings) (place : Place) : Type 0 where
  pub token : ℕ
  pub opening : Opening
  pub is_open : opening_at token os ≡ Some opening
  pub of_place : opening.place ≡ place

-- a list has just the places that are open
pub record AreOpenPlaces (os : Openings) (now : List Place) : Type 0 where
  pub all : (place : Place) → IsOpenAt os place → IsOneOf place now
  pub only : (place : Place) → IsOneOf place now → IsOpenAt os place

-- those that are open besides one
pub record AreOthersOpen (os : Openings) (own : Place) (still : List Place) : Type 0 where
  pub all : (place : Place) → IsOpenAt os place → (place ≡ own → ⊥) → IsOneOf place still
  pub only : (place : Place) → IsOneOf place still → IsOpenAt os place
  pub besides : IsOneOf own still → ⊥

-- a list has just the waits that are kept
pub record AreListed (ws : List (Var × List Place)) (kept : List Wait) : Type 0 where
  pub all : (place : Place) (x : Var) → waits_on ws place x ≡ true → IsKept kept place x
  pub only : (place : Place) (x : Var) → IsKept kept place x → waits_on ws place x ≡ true

-- no token stands twice
abbrev pub AreApart : Openings → Type 0
AreApart [] = ⊤
AreApart (e ∷ es) = (opening_at e.0 es ≡ None) × AreApart es

abbrev pub name_at : Place → Name
name_at (Place.Goal g) = g
name_at (Place.Box n) = n

-- each open place stands in the boxes around it, as they are listed, and one that has gone in none; and its name has been drawn, so that none
-- comes under it later
pub record AreStandingIn (c : Config) (os : Openings) : Type 0 where
  pub around : (t : ℕ) (o : Opening) (n : Name) → opening_at t os ≡ Some o → StandsIn n c.roots o.place → is_in n o.boxes ≡ true
  pub only : (t : ℕ) (o : Opening) (n : Name) → opening_at t os ≡ Some o → is_in n o.boxes ≡ true → StandsIn n c.roots o.place
  pub listed : (t : ℕ) (o : Opening) → opening_at t os ≡ Some o → IsThere o.place c.roots → boxes_around o.place c.roots ≡ Some o.boxes
  pub drawn : (t : ℕ) (o : Opening) → opening_at t os ≡ Some o → IsOld c (name_at o.place)

abbrev pub IsNumberIn : ℕ → List ℕ → Type 0
IsNumberIn t [] = ⊥
IsNumberIn t (s ∷ ss) = (t ≡ s) ⊎ IsNumberIn t ss

abbrev pub IsEachOnce : List ℕ → Type 0
IsEachOnce [] = ⊤
IsEachOnce (t ∷ ts) = (IsNumberIn t ts → ⊥) × IsEachOnce ts

-- the tokens of the places that are open now and weren't before, each once
pub record AreNewTokens (before now : Openings) (tokens : List ℕ) : Type 0 where
  pub new : (t : ℕ) → IsNumberIn t tokens → (o : Opening) × (opening_at t now ≡ Some o) × (IsOpenAt before o.place → ⊥)
  pub all : (t : ℕ) (o : Opening) → opening_at t now ≡ Some o → (IsOpenAt before o.place → ⊥) → IsNumberIn t tokens
  pub once : IsEachOnce tokens

-- the tokens are 0, 1, .. without a gap: just those below the number of open places lead to one
abbrev pub AreFirstTokens : Openings → Type 0
AreFirstTokens os = (token : ℕ) → IsSome (opening_at token os) ↔ (token < length os)

-- no place is open under two tokens
abbrev pub AreOpenOnce : Openings → Type 0
AreOpenOnce os = (s t : ℕ) (o q : Opening) → opening_at s os ≡ Some o → opening_at t os ≡ Some q → o.place ≡ q.place → s ≡ t

abbrev pub token_list : Option ℕ → List ℕ
token_list None = []
token_list (Some t) = t ∷ []

-- the token leads to the place
abbrev pub LeadsTo : Openings → ℕ → Place → Type 0
LeadsTo os token place = (o : Opening) × (opening_at token os ≡ Some o) × (o.place ≡ place)

-- a place that was open, and is, has the token that it had; and each token leads where it led, or is one of those that were given
pub record KeepsTokens (before now : Openings) (given : List ℕ) : Type 0 where
  pub each : (token : ℕ) (o : Opening) → opening_at token before ≡ Some o → IsOpenAt now o.place → LeadsTo now token o.place
  pub only : (token : ℕ) (o : Opening) → opening_at token now ≡ Some o → LeadsTo before token o.place ⊎ IsNumberIn token given
