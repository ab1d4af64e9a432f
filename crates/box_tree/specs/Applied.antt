-- What a step makes of a table, with the marks of variables and of stores.
use Rattle.std.specs.Prelude.{◌≡◌, ℕ, List, Option, None, Some, true, ◌⊎◌}
use Rattle.std.specs.Map.{lookup}
use Rattle.akl_terms.specs.declared.name.Name.{Name}
use Rattle.akl_terms.specs.declared.name.Place.{Place}
use Rattle.akl_terms.specs.declared.name.Var.{Var}
use Rattle.akl_terms.specs.Names.{same_name}
use Rattle.akl_model.specs.declared.label.Label.{Label}
use Rattle.table_laws.specs.Marks.{Marks}
use Rattle.box_tree.specs.declared.step.Step.{Step}
use Rattle.box_tree.specs.StoreMarks.{stores_of}
use Rattle.box_tree.specs.Lefts.{leaves_store, IsHomeLeft, IsToldSolved}
use Rattle.box_tree.specs.Tables.{TableValue, table_of, LeadsBy}

-- the step tells no ports to the box of its goal, a root box that is solved behind it: so it leaves this store as it is, where bindings are told apart, with the mark that it had
pub record KeepsMark (t : TableValue) (l : Label) (step : Step) (u : TableValue) (n : Name) : Type 0 where
  pub leaves : leaves_store step ≡ true
  pub goal : Name
  pub place : l.place ≡ Place.Goal goal
  pub number : ℕ
  pub home : IsHomeLeft t goal n number
  pub told : ℕ
  pub solved : IsToldSolved ((table_of u).box_of n) told
  pub kept : lookup (same_name n) (stores_of u.marks) ≡ Some (record { told = told; number = number })

-- the step of a label is made, or that of the labels of a call, which list these variables as bound: these are marked, and each store has the mark that it had, or none, or keeps its mark
pub record Applied (t : TableValue) (l : Label) (others : ℕ) (at : Option ℕ) (names : ℕ) (step : Step) (binds : List Var) (u : TableValue) : Type 0 where
  pub program : u.program ≡ t.program
  pub query : u.query ≡ t.query
  pub marks : Marks binds (table_of t) (table_of u)
  pub stores : (n : Name) → (lookup (same_name n) (stores_of u.marks) ≡ lookup (same_name n) (stores_of t.marks)) ⊎ ((lookup (same_name n) (stores_of u.marks) ≡ None) ⊎ KeepsMark t l step u n)
  pub leads : LeadsBy t l others at names step (table_of u)
