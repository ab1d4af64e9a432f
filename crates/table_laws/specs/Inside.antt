-- What stands inside a box, by a table's rows.
use Rattle.std.specs.Prelude.{◌≡◌, List, Some}
use Rattle.akl_terms.specs.declared.name.Name.{Name}
use Rattle.akl_model.specs.Config.{Operator}
use Rattle.akl_model.specs.Config.{IsIn}
use Rattle.akl_model.specs.Changes.{of_choice}
use Rattle.table_laws.specs.Rows.{BoxRow, GoalRow, Table}

-- a goal directly in a box
pub record IsDirectlyIn (T : Table) (n g : Name) : Type 0 where
  pub row : BoxRow
  pub there : T.box_of n ≡ Some row
  pub named : IsIn g row.goals

-- a box is an alternative of a choice
pub record IsAlternativeOf (T : Table) (g n : Name) : Type 0 where
  pub row : GoalRow
  pub there : T.goal_of g ≡ Some row
  pub op : Operator
  pub alternatives : List Name
  pub choice : row.shape ≡ of_choice op alternatives
  pub named : IsIn n alternatives

-- a box is another one or stands inside it
pub data IsInside (T : Table) (n : Name) : Name → Type 0 where
  itself : IsInside T n n
  further : {m g a : Name} → IsInside T n m → IsDirectlyIn T m g → IsAlternativeOf T g a → IsInside T n a

-- a goal stands in a box or inside it
pub record IsGoalInside (T : Table) (n g : Name) : Type 0 where
  pub box : Name
  pub inside : IsInside T n box
  pub goal : IsDirectlyIn T box g
