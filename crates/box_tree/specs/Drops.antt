-- Rows that go with a box.
use Rattle.std.specs.Prelude.{◌≡◌, List, Option, Some, None, if◌then◌else◌}
use Rattle.akl_terms.specs.declared.name.Name.{Name}
use Rattle.akl_model.specs.Config.{IsIn}
use Rattle.table_laws.specs.Rows.{GoalRow, Table}
use Rattle.table_laws.specs.Stamped.{Run, IsTableOf}
use Rattle.table_laws.specs.Writes.{none_left}
use Rattle.table_laws.specs.Walks.{Drops}
use Rattle.box_tree.specs.Tables.{TableValue, table_of, all_rules}

-- a run has come to the table
abbrev pub IsOfRun : TableValue → Type 0
IsOfRun t = (run : Run) × IsTableOf all_rules run (table_of t)

-- the rows of these goals go, and all else stays
pub record DropsGoals (t u : TableValue) (goals : List Name) : Type 0 where
  pub goes : (g : Name) → IsIn g goals → (table_of u).goal_of g ≡ None
  pub stays : (g : Name) → (IsIn g goals → ⊥) → (table_of u).goal_of g ≡ (table_of t).goal_of g
  pub rest : u ≡ record t { goals = u.goals }

-- the rows of these boxes go, with those of the goals directly in them, and all else stays
pub record DropsBoxes (t u : TableValue) (boxes : List Name) : Type 0 where
  pub rows : Drops (table_of t) (table_of u) boxes
  pub rest : u ≡ record t { boxes = u.boxes; goals = u.goals }

-- the home of a choice without alternatives
abbrev pub emptied_home : Option GoalRow → Option Name
emptied_home None = None
emptied_home (Some r) = if none_left r.shape then Some r.home else None

-- these rows and root boxes, and all else stays
pub record HasRows (t u : TableValue) (T : Table) : Type 0 where
  pub boxes : (m : Name) → (table_of u).box_of m ≡ T.box_of m
  pub goals : (g : Name) → (table_of u).goal_of g ≡ T.goal_of g
  pub roots : u.roots ≡ T.roots
  pub roots_changed : u.roots_changed ≡ T.roots_changed
  pub rest : u ≡ record t { boxes = u.boxes; goals = u.goals; roots = u.roots; roots_changed = u.roots_changed }
