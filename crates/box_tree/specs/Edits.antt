-- How the parts of a step change a table.
use Rattle.std.specs.Prelude.{◌≡◌, ℕ, ◌≤◌, not, Bool, true, false, ◌||◌, if◌then◌else◌, List, [], ◌∷◌, map, Option, Some, None}
use Rattle.std.specs.Option.{option_or}
use Rattle.std.specs.Map.{lookup}
use Rattle.akl_terms.specs.declared.name.Name.{Name}
use Rattle.akl_terms.specs.declared.term.Node.{Node}
use Rattle.akl_terms.specs.declared.program.Goal.{Goal}
use Rattle.akl_terms.specs.declared.program.Code.{Code}
use Rattle.akl_terms.specs.Names.{same_name}
use Rattle.akl_model.specs.Config.{IsIn, Operator, Atom, or_else, with_names}
use Rattle.akl_model.specs.Names.{times_in}
use Rattle.akl_model.specs.Changes.{Shape, of_choice}
use Rattle.local_store.specs.Stored.{Stored}
use Rattle.local_store.specs.Parts.{with_part}
use Rattle.table_laws.specs.Rows.{BoxRow, GoalRow, Table}
use Rattle.table_laws.specs.Steps as laws
use Rattle.table_laws.specs.Writes.{IsTable, told_row, less_name, new_box_of, new_goal_of, atom_among, shape_among}
use Rattle.box_tree.specs.declared.entries.Held.{Held}
use Rattle.box_tree.specs.declared.entries.HeldOp.{HeldOp}
use Rattle.box_tree.specs.declared.step.NewBox.{NewBox}
use Rattle.box_tree.specs.declared.telling.Told.{Told}
use Rattle.box_tree.specs.Tables.{TableValue, table_of, goal_atom, shape_held}

-- boxes get these rows, and all else stays
pub record SetsBoxes (t u : TableValue) (new : Name → Option BoxRow) : Type 0 where
  pub rows : (m : Name) → (table_of u).box_of m ≡ new m
  pub rest : u ≡ record t { boxes = u.boxes }

-- goals get these rows, and all else stays
pub record SetsGoals (t u : TableValue) (new : Name → Option GoalRow) : Type 0 where
  pub rows : (m : Name) → (table_of u).goal_of m ≡ new m
  pub rest : u ≡ record t { goals = u.goals }

-- the same program, query and marks, and these rows
pub record Becomes (t u : TableValue) (T : Table) : Type 0 where
  pub program : u.program ≡ t.program
  pub query : u.query ≡ t.query
  pub marks : u.marks ≡ t.marks
  pub table : IsTable (table_of u) T

-- a box has the row of one that is told by a label, and loses a goal by another
abbrev pub told_first : Name → Stored → Option ℕ → ℕ → ℕ → BoxRow → BoxRow
told_first g new solved_at told number r = record (told_row g new solved_at number r) { changed = told }

-- the same, where something is added to the store that the box has
abbrev pub part_row : Name → Told → ℕ → BoxRow → BoxRow
part_row g told number r = told_first g (with_part r.store told.part) told.solved_at told.number number r

-- entries whose names are none of these
abbrev pub is_among : Name → List Name → Bool
is_among m [] = false
is_among m (n ∷ ns) = same_name m n || is_among m ns

abbrev pub without : {A : Type 0} → List Name → List (Name × A) → List (Name × A)
without ns [] = []
without ns (e ∷ es) = if is_among e.0 ns then without ns es else e ∷ without ns es

-- entries of these names may come, or get other values, and nothing else changes
pub record AddsOnly (t u : TableValue) (own : List Name) : Type 0 where
  pub boxes : (names : List Name) → ((m : Name) → IsIn m own → IsIn m names) → without names u.boxes ≡ without names t.boxes
  pub goals : (names : List Name) → ((m : Name) → IsIn m own → IsIn m names) → without names u.goals ≡ without names t.goals
  pub rest : u ≡ record t { boxes = u.boxes; goals = u.goals }

-- the rows of boxes and goals become these, and all else stays
pub record SetsRows (t u : TableValue) (new_boxes : Name → Option BoxRow) (new_goals : Name → Option GoalRow) : Type 0 where
  pub boxes : (m : Name) → (table_of u).box_of m ≡ new_boxes m
  pub goals : (m : Name) → (table_of u).goal_of m ≡ new_goals m
  pub rest : u ≡ record t { boxes = u.boxes; goals = u.goals }

-- goals with names, as atoms
abbrev pub named_atoms : List Node → List (Name × Goal) → List (Name × Atom)
named_atoms nodes goals = map (λ (x : Name × Goal). (x.0, goal_atom nodes x.1)) goals

-- and as shapes, by what becomes of each
abbrev pub named_shapes : {A : Type 0} → (A → Held) → List Node → List (Name × A) → List (Name × Shape)
named_shapes {A} held nodes goals = map (λ (x : Name × A). (x.0, shape_held nodes (held x.1))) goals

-- boxes with their goals come before what is there
abbrev pub boxes_with : Name → Option ℕ → ℕ → List laws.NewBox → Table → Name → Option BoxRow
boxes_with g at number news T m = or_else (new_box_of g at number news m) (T.box_of m)

abbrev pub goals_with : ℕ → List laws.NewBox → Table → Name → Option GoalRow
goals_with number news T m = or_else (new_goal_of number news m) (T.goal_of m)

abbrev pub atoms_with : Name → ℕ → List (Name × Atom) → Table → Name → Option GoalRow
atoms_with home number atoms T m = or_else (atom_among home number atoms m) (T.goal_of m)

abbrev pub shapes_with : Name → ℕ → List (Name × Shape) → Table → Name → Option GoalRow
shapes_with home number shapes T m = or_else (shape_among home number shapes m) (T.goal_of m)

abbrev pub is_fail : Code → Bool
is_fail Code.Fail = true
is_fail c = false

-- the entries of these names go, and no other
pub record Clears (t u : TableValue) (own : List Name) : Type 0 where
  pub only : AddsOnly t u own
  pub boxes : (m : Name) → IsIn m own → lookup (same_name m) u.boxes ≡ None
  pub boxes_stay : (m : Name) → lookup (same_name m) t.boxes ≡ None → lookup (same_name m) u.boxes ≡ None
  pub goals : (m : Name) → IsIn m own → lookup (same_name m) u.goals ≡ None
  pub goals_stay : (m : Name) → lookup (same_name m) t.goals ≡ None → lookup (same_name m) u.goals ≡ None

abbrev pub choice_row : Operator → List Name → ℕ → GoalRow → GoalRow
choice_row op names number r = record r { shape = of_choice op names; changed = number }

-- the box that fails by a choice of these boxes: its home, where there are none, unless the choice collects
abbrev pub if_empty : Name → List NewBox → Option Name
if_empty home [] = Some home
if_empty home (n ∷ ns) = None

abbrev pub home_if_empty : Name → HeldOp → List NewBox → Option Name
home_if_empty home (HeldOp.Collect t) news = None
home_if_empty home HeldOp.Condition news = if_empty home news
home_if_empty home HeldOp.Commit news = if_empty home news
home_if_empty home HeldOp.Choice news = if_empty home news

-- whether an alternative is kept, by whether the solved one was passed before it, and whether it is that one
abbrev pub keeps : HeldOp → Bool → Bool → Bool
keeps HeldOp.Condition passed here = not passed
keeps HeldOp.Commit passed here = here
keeps HeldOp.Choice passed here = true
keeps (HeldOp.Collect t) passed here = true

-- names that stand once each, and not among others
pub record AreNew (names others : List Name) : Type 0 where
  pub once : (m : Name) → times_in m names ≤ 1
  pub apart : (m : Name) → IsIn m names → IsIn m others → ⊥

abbrev pub less_names : List Name → List Name → List Name
less_names [] ms = ms
less_names (n ∷ ns) ms = less_names ns (less_name n ms)

-- a box with more goals, which fails by one of them where it did not fail already
abbrev pub named_row : List Name → Option Name → BoxRow → BoxRow
named_row names failing r = record r { goals = with_names names r.goals; failing = option_or r.failing failing }

-- and then told by a label, by another one of which it loses a goal
abbrev pub joins_row : Name → List Name → Option Name → Told → ℕ → BoxRow → BoxRow
joins_row g names failing told number r = part_row g told number (named_row names failing r)
