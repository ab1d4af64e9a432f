-- The boxes inside a box, gathered by a table's rows, and rows that go.
use Rattle.std.specs.Prelude.{◌≡◌, ◌≤◌, List, [], ◌∷◌, ◌++◌, Option, Some, None}
use Rattle.akl_terms.specs.declared.name.Name.{Name}
use Rattle.akl_model.specs.Config.{IsIn}
use Rattle.akl_model.specs.Names.{times_in}
use Rattle.akl_model.specs.Changes.{Shape, of_atom, of_choice}
use Rattle.table_laws.specs.Rows.{BoxRow, GoalRow, Table}
use Rattle.table_laws.specs.Inside.{IsDirectlyIn, IsInside}

-- the alternatives of a goal, none of an atom or where no goal is
abbrev pub alternatives_in : Shape → List Name
alternatives_in (of_atom a) = []
alternatives_in (of_choice op alternatives) = alternatives

abbrev pub alternatives_of : Option GoalRow → List Name
alternatives_of None = []
alternatives_of (Some r) = alternatives_in r.shape

abbrev pub alternatives_among : Table → List Name → List Name
alternatives_among T [] = []
alternatives_among T (g ∷ gs) = alternatives_of (T.goal_of g) ++ alternatives_among T gs

-- the alternatives of the choices directly in a box, none where no box is
abbrev pub boxes_in_row : Table → Option BoxRow → List Name
boxes_in_row T None = []
boxes_in_row T (Some r) = alternatives_among T r.goals

abbrev pub boxes_directly_in : Table → Name → List Name
boxes_directly_in T n = boxes_in_row T (T.box_of n)

-- the names are those of the box and of the boxes inside it, each once
pub record ListsInside (T : Table) (n : Name) (names : List Name) : Type 0 where
  pub once : (m : Name) → times_in m names ≤ 1
  pub inside : (m : Name) → IsIn m names → IsInside T n m
  pub each : (m : Name) → IsInside T n m → IsIn m names

-- the names are those of some boxes and of the boxes inside them
pub record ListsEach (T : Table) (boxes names : List Name) : Type 0 where
  pub inside : (m : Name) → IsIn m names → (n : Name) × IsIn n boxes × IsInside T n m
  pub each : (n m : Name) → IsIn n boxes → IsInside T n m → IsIn m names

-- the rows of these boxes go, with those of the goals directly in them, and no others
pub record Drops (T U : Table) (names : List Name) : Type 0 where
  pub box_goes : (m : Name) → IsIn m names → U.box_of m ≡ None
  pub goal_goes : (m g : Name) → IsIn m names → IsDirectlyIn T m g → U.goal_of g ≡ None
  pub box_stays : (m : Name) → (IsIn m names → ⊥) → U.box_of m ≡ T.box_of m
  pub goal_stays : (g : Name) → ((m : Name) → IsIn m names → IsDirectlyIn T m g → ⊥) → U.goal_of g ≡ T.goal_of g
