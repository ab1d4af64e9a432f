-- A run that is made once more.
use Rattle.std.specs.Prelude.{◌≡◌, ℕ, []}
use Rattle.box_tree.specs.Tables.{HasVariables, HasShownVariables}
use Rattle.step_commit.specs.Cores.{CoreValue}
use Rattle.akl_run.specs.declared.loaded.Loaded.{Loaded}

-- a loaded query of which a run can be begun
pub record MayBegin (l : Loaded) : Type 0 where
  pub variables : HasVariables l.program l.query l.first_variable
  pub shown : HasShownVariables l.query

-- the state of the query before its first label
pub record IsBegun (l : Loaded) (workers budget : ℕ) (c : CoreValue) : Type 0 where
  pub program : c.table.program ≡ l.program
  pub query : c.table.query ≡ l.query
  pub journal : c.journal ≡ []
  pub of_workers : c.workers ≡ workers
  pub same_budget : c.budget ≡ budget
