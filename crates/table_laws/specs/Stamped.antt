-- A table keeps of each item the number of the last label that changed it.
use Rattle.std.specs.Prelude.{◌≡◌, ℕ, List, [], ◌∷◌, ◌++◌, length, Option, Some, None}
use Rattle.akl_terms.specs.declared.name.Name.{Name}
use Rattle.akl_terms.specs.declared.name.Var.{Var}
use Rattle.akl_terms.specs.declared.program.Program.{Program}
use Rattle.akl_terms.specs.declared.program.Query.{Query}
use Rattle.akl_model.specs.declared.item.Item.{Item}
use Rattle.akl_model.specs.declared.label.Rule.{Rule}
use Rattle.akl_model.specs.declared.label.Label.{Label}
use Rattle.akl_model.specs.Config.{Config}
use Rattle.akl_model.specs.Changes.{by_store, IsLastChange}
use Rattle.akl_model.specs.Derivations.{Replays}
use Rattle.reading_laws.specs.Marks.{IsMark}
use Rattle.table_laws.specs.Rows.{BoxRow, GoalRow, Table}
use Rattle.table_laws.specs.Unfolds.{Unfolds}

-- what was asked, and the labels made for it
pub record Run : Type 0 where
  pub program : Program
  pub query : Query
  pub journal : List Label

abbrev pub followed_by : Run → Label → Run
followed_by r l = record r { journal = r.journal ++ l ∷ [] }

abbrev pub LastChange : List Rule → Run → Item → ℕ → Type 0
LastChange rules r item k = IsLastChange by_store rules r.program r.query r.journal item k

pub record IsStamped (rules : List Rule) (r : Run) (T : Table) : Type 0 where
  pub steps : T.steps ≡ length r.journal
  pub store : (n : Name) (row : BoxRow) → T.box_of n ≡ Some row → LastChange rules r (Item.Store n) row.changed
  pub goals : (n : Name) (row : BoxRow) → T.box_of n ≡ Some row → LastChange rules r (Item.Goals n) row.goals_changed
  pub goal : (g : Name) (row : GoalRow) → T.goal_of g ≡ Some row → LastChange rules r (Item.Goal g) row.changed
  pub roots : LastChange rules r Item.Roots T.roots_changed

-- and a mark of each variable
pub record AreMarked (rules : List Rule) (r : Run) (T : Table) : Type 0 where
  pub each : (x : Var) → IsMark rules r.program r.query r.journal x (T.mark_of x)

-- a table that a run has led to, with the configuration to which it unfolds
pub record IsTableOf (rules : List Rule) (r : Run) (T : Table) : Type 0 where
  pub config : Config
  pub replays : Replays rules r.program r.query r.journal config
  pub nodes : T.nodes ≡ r.program.templates.nodes
  pub unfolds : Unfolds T config
  pub stamped : IsStamped rules r T

abbrev pub store_stamp : Option BoxRow → Option ℕ
store_stamp None = None
store_stamp (Some r) = Some r.changed

abbrev pub goals_stamp : Option BoxRow → Option ℕ
goals_stamp None = None
goals_stamp (Some r) = Some r.goals_changed

abbrev pub goal_stamp : Option GoalRow → Option ℕ
goal_stamp None = None
goal_stamp (Some r) = Some r.changed

-- the stamp that a table has of an item; none of one that has gone
abbrev pub stamp_in : Table → Item → Option ℕ
stamp_in T Item.Roots = Some T.roots_changed
stamp_in T (Item.Store n) = store_stamp (T.box_of n)
stamp_in T (Item.Goals n) = goals_stamp (T.box_of n)
stamp_in T (Item.Goal g) = goal_stamp (T.goal_of g)
stamp_in T (Item.Binding x) = Some (T.mark_of x)
