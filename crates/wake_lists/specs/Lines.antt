-- Tokens in lines, in the order of their turns' numbers.
use Rattle.std.specs.Prelude.{◌≡◌, ℕ, ◌+◌, ◌≤◌, List, [], ◌∷◌, ◌++◌, Option, None, Some, Bool, true, false, ◌&&◌, ◌==◌, if◌then◌else◌}
use Rattle.std.specs.List.{list_any}
use Rattle.std.specs.Map.{lookup}
use Rattle.wake_lists.specs.declared.turn.Urgency.{Urgency}
use Rattle.wake_lists.specs.declared.turn.Turn.{Turn}
use Rattle.wake_lists.specs.declared.turn.Opened.{Opened}
use Rattle.wake_lists.specs.declared.line.Entry.{Entry}
use Rattle.wake_lists.specs.Queue.{is_sooner, Places, same_turn}
use Rattle.wake_lists.specs.Slots.{tally}
use lib.Dec.{eqb}

-- one line, and for how many more entries it keeps room
pub record LineValue : Type 0 where
  pub entries : List Entry
  pub reserved : ℕ

-- the lines of all urgencies, and the number of the next turn
pub record LineEntries : Type 0 where
  pub urgent : List Entry
  pub ordinary : List Entry
  pub late : List Entry
  pub next : ℕ

-- these, and for how many more entries the line of the urgent places keeps room
pub record LinesValue : Type 0 where
  pub entries : LineEntries
  pub reserved : ℕ

-- a token stands in a line with this number
abbrev pub is_entry : ℕ → ℕ → Entry → Bool
is_entry n t e = (n == e.number) && (t == e.token)

abbrev pub stands_at : List Entry → ℕ → ℕ → Bool
stands_at es n t = list_any (is_entry n t) es

-- the numbers increase; none is below the first of these bounds, and all are below the second
abbrev pub IsRising : ℕ → List Entry → ℕ → Type 0
IsRising low [] high = low ≤ high
IsRising low (e ∷ es) high = (low ≤ e.number) × IsRising (e.number + 1) es high

abbrev pub has_turn : Turn → Option Opened → Bool
has_turn u None = false
has_turn u (Some o) = same_turn o.turn u

-- in the line of an urgency: the place of an entry's token has the entry's turn
abbrev pub is_current : List (ℕ × Opened) → Urgency → Entry → Bool
is_current os u e = has_turn (record { urgency = u; number = e.number }) (lookup (eqb e.token) os)

abbrev pub HasCurrentFront : (Entry → Bool) → List Entry → Type 0
HasCurrentFront current [] = Unit {0}
HasCurrentFront current (e ∷ es) = current e ≡ true

-- only entries that aren't current were taken out
pub record IsThinned (current : Entry → Bool) (old new : List Entry) : Type 0 where
  pub kept : (n t : ℕ) → current (record { number = n; token = t }) ≡ true → stands_at old n t ≡ true → stands_at new n t ≡ true
  pub rising : (low high : ℕ) → IsRising low old high → IsRising low new high

abbrev pub front_of : List Entry → Option ℕ
front_of [] = None
front_of (e ∷ es) = Some e.token

abbrev pub line_of : Urgency → LineEntries → List Entry
line_of Urgency.Urgent l = l.urgent
line_of Urgency.Ordinary l = l.ordinary
line_of Urgency.Late l = l.late

abbrev pub with_line : Urgency → List Entry → LineEntries → LineEntries
with_line Urgency.Urgent es l = record l { urgent = es }
with_line Urgency.Ordinary es l = record l { ordinary = es }
with_line Urgency.Late es l = record l { late = es }

-- a token comes to the back of a line with the next number
abbrev pub joined : Urgency → ℕ → LineEntries → LineEntries
joined u t l = record (with_line u (line_of u l ++ record { number = l.next; token = t } ∷ []) l) { next = l.next + 1 }

-- one line was thinned, and a current entry stands at its front
pub record IsThinnedAt (os : Places) (u : Urgency) (old new : LineEntries) : Type 0 where
  pub others : new ≡ with_line u (line_of u new) old
  pub thinned : IsThinned (is_current os u) (line_of u old) (line_of u new)
  pub front : HasCurrentFront (is_current os u) (line_of u new)

abbrev pub or_else : Option ℕ → Option ℕ → Option ℕ
or_else None o = o
or_else (Some t) o = Some t

-- the token at the front of the first line that isn't empty
abbrev pub first_of : LineEntries → Option ℕ
first_of l = or_else (front_of l.urgent) (or_else (front_of l.ordinary) (front_of l.late))

-- the token of each open place stands in the line of its urgency with its turn's number
pub record AreLined (os : Places) (l : LineEntries) : Type 0 where
  pub there : (t : ℕ) (o : Opened) → lookup (eqb t) os ≡ Some o → stands_at (line_of o.turn.urgency l) o.turn.number t ≡ true
  pub rising : (u : Urgency) → IsRising 0 (line_of u l) l.next
  pub fronts : (u : Urgency) → HasCurrentFront (is_current os u) (line_of u l)

-- a place that is less urgent has room in the line of the urgent ones
abbrev pub needs_room : Urgency → Bool
needs_room u = is_sooner Urgency.Urgent u

abbrev pub room_of : Urgency → ℕ
room_of u = if needs_room u then 1 else 0

-- a token comes into a line, and room is kept for it
abbrev pub entered : Urgency → ℕ → LinesValue → LinesValue
entered u t v = record { entries = joined u t v.entries; reserved = v.reserved + room_of u }

-- each open place stands in its line, and for just those that aren't urgent room is kept
pub record AreScheduled (os : Places) (v : LinesValue) : Type 0 where
  pub lined : AreLined os v.entries
  pub reserved : v.reserved ≡ tally (λ (o : Opened). needs_room o.turn.urgency) os
