-- Open places by their tokens, in the order of their turns.
use Rattle.std.specs.Prelude.{◌≡◌, ℕ, ◌<◌, List, [], Option, None, Some, Bool, true, false, ◌&&◌, ◌||◌, ◌==◌, nat_lt, ◌⊎◌}
use Rattle.std.specs.Map.{lookup}
use Rattle.akl_terms.specs.declared.name.Place.{Place}
use Rattle.wake_lists.specs.declared.turn.Urgency.{Urgency}
use Rattle.wake_lists.specs.declared.turn.Turn.{Turn}
use Rattle.wake_lists.specs.declared.turn.Opened.{Opened}
use Rattle.wake_lists.specs.declared.place_map.PlaceMap.{PlaceMap}
use Rattle.wake_lists.specs.PlaceMaps.{value_at}
use Rattle.wake_lists.specs.Slots.{IsPut}
use Rattle.wake_lists.specs.Waits.{same_place}
use lib.Dec.{eqb}

-- the order of the urgencies
abbrev pub rank : Urgency → ℕ
rank Urgency.Urgent = 0
rank Urgency.Ordinary = 1
rank Urgency.Late = 2

abbrev pub is_sooner : Urgency → Urgency → Bool
is_sooner a b = nat_lt (rank a) (rank b)

abbrev pub same_urgency : Urgency → Urgency → Bool
same_urgency a b = rank a == rank b

-- a turn comes before another one: it is more urgent, or as urgent with the lower number
abbrev pub earlier : Urgency → ℕ → Urgency → ℕ → Bool
earlier a m b n = is_sooner a b || (same_urgency a b && nat_lt m n)

abbrev pub is_earlier : Turn → Turn → Bool
is_earlier s t = earlier s.urgency s.number t.urgency t.number

abbrev pub same_turn : Turn → Turn → Bool
same_turn s t = same_urgency s.urgency t.urgency && (s.number == t.number)

abbrev pub Places : Type 0
Places = List (ℕ × Opened)

abbrev pub is_place : Place → Opened → Bool
is_place p o = same_place p o.place

-- no open place is so
abbrev pub HasNone : (Opened → Bool) → Places → Type 0
HasNone test os = (t : ℕ) (o : Opened) → lookup (eqb t) os ≡ Some o → test o ≡ false

-- the token of a place, where it is open
pub record IsTokenOf (os : Places) (place : Place) (result : Option ℕ) : Type 0 where
  pub there : (t : ℕ) (o : Opened) → lookup (eqb t) os ≡ Some o → o.place ≡ place → result ≡ Some t
  pub back : (t : ℕ) → result ≡ Some t → (o : Opened) × (lookup (eqb t) os ≡ Some o) × (o.place ≡ place)

-- the token of the place that comes before all others
abbrev pub IsNext : Places → Option ℕ → Type 0
IsNext os None = os ≡ []
IsNext os (Some t) = (o : Opened) × (lookup (eqb t) os ≡ Some o) × ((s : ℕ) (q : Opened) → lookup (eqb s) os ≡ Some q → (s ≡ t) ⊎ (is_earlier o.turn q.turn ≡ true))

-- a key leads to the token of the open place that has it
pub record Leads {K : Type 0} (key : Opened → K) (index : K → Option ℕ) (find : ℕ → Option Opened) : Type 0 where
  pub there : (t : ℕ) (o : Opened) → find t ≡ Some o → index (key o) ≡ Some t
  pub back : (k : K) (t : ℕ) → index k ≡ Some t → (o : Opened) × (find t ≡ Some o) × (key o ≡ k)

-- the tokens by the places
abbrev pub AreQueued : Places → PlaceMap ℕ → Type 0
AreQueued os tokens = Leads (λ o. o.place) (value_at tokens) (λ t. lookup (eqb t) os)

-- a place is put behind all others that are as urgent, with a number above those of all
pub record GetsLast (old new : Places) (t : ℕ) (place : Place) (urgency : Urgency) : Type 0 where
  pub number : ℕ
  pub above : (s : ℕ) (q : Opened) → lookup (eqb s) old ≡ Some q → q.turn.number < number
  pub put : IsPut old new t (record { place = place; turn = record { urgency = urgency; number = number } })
