-- What a look finds by rows.
use Rattle.std.specs.Prelude.{◌≡◌, ℕ, ◌+◌, ◌<◌, Bool, true, false, not, nat_lt, max, List, [], ◌∷◌, length, map, reverse, Option, Some, None, is_some, option_map, if◌then◌else◌}
use Rattle.std.specs.Map.{lookup}
use Rattle.akl_terms.specs.declared.name.Name.{Name}
use Rattle.akl_terms.specs.declared.name.Place.{Place}
use Rattle.akl_terms.specs.declared.term.Term.{Term}
use Rattle.akl_terms.specs.Names.{same_name}
use Rattle.akl_model.specs.Config.{Atom}
use Rattle.table_laws.specs.Rows.{BoxRow, Table, store_in}
use Rattle.table_laws.specs.Writes.{home_in, holder_in_row}
use Rattle.table_laws.specs.Walks.{alternatives_of}
use Rattle.box_tree.specs.declared.entries.Held.{Held}
use Rattle.box_tree.specs.declared.entries.BoxEntry.{BoxEntry}
use Rattle.box_tree.specs.declared.entries.GoalEntry.{GoalEntry}
use Rattle.box_tree.specs.declared.view.Alternative.{Alternative}
use Rattle.box_tree.specs.declared.view.Sight.{Sight}
use Rattle.box_tree.specs.Tables.{TableValue, table_of, goals_in, is_empty}
use Rattle.box_tree.specs.Alone.{stands_alone}

-- the box in which the choice stands that holds a box
abbrev pub home_at : Table → Option Name → Option Name
home_at T None = None
home_at T (Some g) = home_in (T.goal_of g)

abbrev pub outside_of : Table → Name → Option Name
outside_of T n = home_at T (holder_in_row (T.box_of n))

-- these boxes are around a box, innermost first
abbrev pub Deep : Table → Name → List Name → Type 0
Deep T n [] = outside_of T n ≡ None
Deep T n (m ∷ ms) = (outside_of T n ≡ Some m) × Deep T m ms

-- the boxes down to a box, outermost first
abbrev pub IsPath : Table → Name → List Name → Type 0
IsPath T n path = (ms : List Name) × Deep T n ms × (path ≡ reverse (n ∷ ms))

-- a box has fewer boxes around it than the table has
abbrev pub HasPath : TableValue → Name → Type 0
HasPath t n = (ms : List Name) × Deep (table_of t) n ms × (length ms < length t.boxes)

-- what stands at a place, and its box
abbrev pub sight_held : Held → Sight
sight_held (Held.Atom g) = Sight.Atom g
sight_held (Held.Choice op alternatives since) = Sight.Choice op

abbrev pub sight_in : TableValue → Place → Option (Name × Sight)
sight_in t (Place.Goal g) = option_map (λ (e : GoalEntry). (e.home, sight_held e.held)) (lookup (same_name g) t.goals)
sight_in t (Place.Box n) = option_map (λ (e : BoxEntry). (n, Sight.Box e.failing)) (lookup (same_name n) t.boxes)

-- a store was solved when there were at least so many labels
abbrev pub is_at_least : Option ℕ → ℕ → Bool
is_at_least None latest = false
is_at_least (Some k) latest = not (nat_lt k latest)

abbrev pub solving_in : Option BoxRow → Option ℕ × ℕ
solving_in None = (None, 0)
solving_in (Some r) = (r.solved_at, r.changed)

-- a box's store is solved with those around it, where these are and others around it were last changed by the label of this number: it was
-- when there were at least so many labels, or it was at all, has goals still, and stands alone
abbrev pub is_solved_over : Option BoxRow → ℕ → Bool
is_solved_over None latest = false
is_solved_over (Some r) latest = if is_at_least r.solved_at latest then true else (if is_some r.solved_at then (if is_empty r.goals then false else stands_alone r.store) else false)

-- so, with the number of the last label that changed it
abbrev pub solving_over : Option BoxRow → ℕ → Bool × ℕ
solving_over row latest = (is_solved_over row latest, (solving_in row).1)

-- how many of the outermost boxes are known to be solved together, where others around all of them were last changed by the label of this number
abbrev pub known_in : Table → ℕ → List Name → ℕ
known_in T latest [] = 0
known_in T latest (n ∷ ns) = if is_solved_over (T.box_of n) latest then known_in T (max latest (solving_in (T.box_of n)).1) ns + 1 else 0

-- the last label that changed one of them, where all are known to be
abbrev pub latest_in : Table → ℕ → List Name → Option ℕ
latest_in T latest [] = Some latest
latest_in T latest (n ∷ ns) = if is_solved_over (T.box_of n) latest then latest_in T (max latest (solving_in (T.box_of n)).1) ns else None

-- the alternatives of the choice at a place
abbrev pub names_at : Table → Place → List Name
names_at T (Place.Goal g) = alternatives_of (T.goal_of g)
names_at T (Place.Box n) = []

-- how many of the stores down to an alternative are known to be solved together, by its own, where so many are of those around it; where
-- these are all, the last label that changed one of them is given, and with the alternative's own these are the whole
abbrev pub known_with : Option BoxRow → ℕ → Option ℕ → ℕ → ℕ
known_with row known None whole = known
known_with row known (Some latest) whole = if is_solved_over row latest then whole else known

-- what is seen of an alternative
abbrev pub collected_in : Option BoxEntry → Option Term
collected_in None = None
collected_in (Some e) = e.collected

abbrev pub seen_as : TableValue → ℕ → Option ℕ → ℕ → Name → Alternative
seen_as t known latest whole n = record {
  name = n;
  solved = is_empty (goals_in ((table_of t).box_of n));
  store = store_in ((table_of t).box_of n);
  known = known_with ((table_of t).box_of n) known latest whole;
  collected = collected_in (lookup (same_name n) t.boxes);
}

-- what is seen of those at a place, by the boxes down to its box
abbrev pub alternatives_seen : TableValue → List Name → Place → List Alternative
alternatives_seen t path place = map (seen_as t (known_in (table_of t) 0 path) (latest_in (table_of t) 0 path) (length path + 1)) (names_at (table_of t) place)

-- the body of the only one of some boxes
abbrev pub body_in : Option BoxRow → List Atom
body_in None = []
body_in (Some r) = r.body

abbrev pub body_of_only : Table → List Name → List Atom
body_of_only T (n ∷ []) = body_in (T.box_of n)
body_of_only T ns = []
