-- What becomes of a loaded query, of which the clauses of private functions speak.
use Rattle.std.specs.Prelude.{◌≡◌, ℕ, Bool, List}
use Rattle.akl_model.specs.Config.{Content}
use Rattle.akl_model.specs.Derivations.{AreAnswers}
use Rattle.step_commit.specs.Cores.{CoreValue, TableIn}
use Rattle.seq_engine.specs.Runs.{EndsAs}
use Rattle.par_workers.specs.declared.run.Finished.{Finished}
use Rattle.par_workers.specs.Crews.{lists}
use Rattle.tree_models.specs.declared.model.TreeModel.{TreeModel}
use Rattle.akl_args.specs.declared.flag.Flags.{Flags}
use Rattle.akl_run.specs.declared.loaded.Loaded.{Loaded}
use Rattle.akl_run.specs.declared.evaluate.Evaluated.{Evaluated}
use Rattle.akl_run.specs.declared.stop.Stop.{Stop}
use Rattle.akl_run.specs.Runs.{AreModels}
use Rattle.akl_run.specs.Reports.{AreOfWorkers, RunStops}

-- a core of the query was run by so many workers to an end within the budget
pub record HasFinished (l : Loaded) (workers budget : ℕ) (f : Finished) : Type 0 where
  pub program : f.core.table.program ≡ l.program
  pub query : f.core.table.query ≡ l.query
  pub same_budget : f.core.budget ≡ budget
  pub of_workers : AreOfWorkers workers f.core.journal (lists f.receipts.items)
  pub ends : EndsAs f.core f.end

-- the models of a core's answers, where they are asked
abbrev pub HasModels : CoreValue → Bool → List TreeModel → Type 0
HasModels c asked models = (t : TableIn c) (answers : List Content) → AreAnswers t.config.roots answers → AreModels asked answers models

-- a run that has ended: it has its core's program, and the models of its answers where they are asked
pub record HasEnded (e : Evaluated) : Type 0 where
  pub program : e.program ≡ e.core.table.program
  pub ends : EndsAs e.core e.end
  pub models : HasModels e.core e.flags.model e.models.items

-- the query was run
pub record IsEvaluated (l : Loaded) (workers budget : ℕ) (flags : Flags) (e : Evaluated) : Type 0 where
  pub ended : HasEnded e
  pub program : e.core.table.program ≡ l.program
  pub query : e.core.table.query ≡ l.query
  pub same_budget : e.core.budget ≡ budget
  pub of_workers : AreOfWorkers workers e.core.journal (lists e.receipts.items)
  pub same_flags : e.flags ≡ flags

-- why it wasn't
abbrev pub StopsRun : Stop → Type 0
StopsRun stop = RunStops stop.status stop.refusal
