-- The open places, the order in which they come, and the boxes in which they stand.
use Rattle.std.specs.Prelude.{◌≡◌, ℕ, ◌<◌, List, [], ◌∷◌, Option, None, Some, Bool, true, false, ◌||◌, if◌then◌else◌, map, IsSome, ◌⊎◌}
use Rattle.std.specs.List.{list_any}
use Rattle.std.specs.Map.{lookup, remove_entry}
use Rattle.std.specs.BTreeMap.{insert_entry}
use Rattle.std.specs.Ordering.{nat_cmp}
use Rattle.akl_terms.specs.declared.name.Name.{Name}
use Rattle.akl_terms.specs.declared.name.Place.{Place}
use Rattle.wake_lists.specs.declared.turn.Urgency.{Urgency}
use Rattle.wake_lists.specs.declared.turn.Turn.{Turn}
use Rattle.wake_lists.specs.Queue.{is_earlier, is_sooner}
use Rattle.wake_lists.specs.Standing.{is_in}
use Rattle.wake_lists.specs.Waits.{same_place}
use lib.Dec.{eqb}

-- an open place, with its turn and the boxes in which it stands
pub record Opening : Type 0 where
  pub place : Place
  pub turn : Turn
  pub boxes : List Name

-- open places by their tokens, in increasing order
abbrev pub Openings : Type 0
Openings = List (ℕ × Opening)

abbrev pub opening_at : ℕ → Openings → Option Opening
opening_at t os = lookup (eqb t) os

-- the token of a place, where it is open
pub record IsOpen (os : Openings) (place : Place) (result : Option ℕ) : Type 0 where
  pub there : (t : ℕ) (o : Opening) → opening_at t os ≡ Some o → o.place ≡ place → result ≡ Some t
  pub back : (t : ℕ) → result ≡ Some t → (o : Opening) × (opening_at t os ≡ Some o) × (o.place ≡ place)

-- the token of the place that comes before all others
abbrev pub IsFirst : Openings → Option ℕ → Type 0
IsFirst os None = os ≡ []
IsFirst os (Some t) = (o : Opening) × (opening_at t os ≡ Some o) × ((s : ℕ) (q : Opening) → opening_at s os ≡ Some q → (s ≡ t) ⊎ (is_earlier o.turn q.turn ≡ true))

-- a turn's number is above those of all open places
abbrev pub IsLast : Openings → Turn → Type 0
IsLast os u = (s : ℕ) (q : Opening) → opening_at s os ≡ Some q → q.turn.number < u.number

-- the least token that no open place has
pub record IsLeastToken (os : Openings) (t : ℕ) : Type 0 where
  pub free : opening_at t os ≡ None
  pub least : (s : ℕ) → s < t → IsSome (opening_at s os)

-- what is open, in which boxes, whenever it comes
abbrev pub untimed : Openings → List (ℕ × Place × List Name)
untimed os = map (λ (e : ℕ × Opening). (e.0, e.1.place, e.1.boxes)) os

-- an open place comes after all others that are as urgent as this; a token that leads to no place is left alone
pub data IsPutLast (before after : Openings) (urgency : Urgency) (t : ℕ) : Type 0 where
  put : (o : Opening) (u : Turn) → opening_at t before ≡ Some o → u.urgency ≡ urgency → IsLast before u → after ≡ insert_entry nat_cmp before t (record o { turn = u }) → IsPutLast before after urgency t
  none : opening_at t before ≡ None → after ≡ before → IsPutLast before after urgency t

-- an open place that is less urgent than this comes after all others that are so urgent; another one stays
pub data IsHurried (before after : Openings) (urgency : Urgency) (t : ℕ) : Type 0 where
  stays : ((o : Opening) → opening_at t before ≡ Some o → is_sooner urgency o.turn.urgency ≡ false) → after ≡ before → IsHurried before after urgency t
  hurries : (o : Opening) → opening_at t before ≡ Some o → is_sooner urgency o.turn.urgency ≡ true → IsPutLast before after urgency t → IsHurried before after urgency t

-- a place is opened: one that is open keeps its token and comes no later, another one comes after all others as urgent
pub data IsOpened (before after : Openings) (place : Place) (around : List Name) (urgency : Urgency) (t : ℕ) : Type 0 where
  was_open : (o : Opening) → opening_at t before ≡ Some o → o.place ≡ place → IsHurried before after urgency t → IsOpened before after place around urgency t
  is_new : (u : Turn) → IsOpen before place None → IsLeastToken before t → u.urgency ≡ urgency → IsLast before u
      → after ≡ insert_entry nat_cmp before t (record { place = place; turn = u; boxes = around }) → IsOpened before after place around urgency t

abbrev pub closed : ℕ → Openings → Openings
closed t os = remove_entry (eqb t) os

-- a box leaves: the place that it is, and those that stand in it, stand in none
abbrev pub without : Name → Opening → Opening
without n o = record o { boxes = if same_place (Place.Box n) o.place || is_in n o.boxes then [] else o.boxes }

abbrev pub after_one : Name → Openings → Openings
after_one n os = map (λ (e : ℕ × Opening). (e.0, without n e.1)) os

abbrev pub after_leave : List Name → Openings → Openings
after_leave [] os = os
after_leave (n ∷ ns) os = after_leave ns (after_one n os)

-- an open place stands in the box
abbrev pub is_busy : Name → Openings → Bool
is_busy n os = list_any (λ (o : ℕ × Opening). is_in n o.1.boxes) os

-- the token of an open place that stands in the box, where one does
abbrev pub IsInside : Name → Openings → Option ℕ → Type 0
IsInside n os None = is_busy n os ≡ false
IsInside n os (Some t) = (o : Opening) × (opening_at t os ≡ Some o) × (is_in n o.boxes ≡ true)
