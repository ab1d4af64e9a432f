-- What a report of the top call says.
use Rattle.std.specs.Prelude.{◌≡◌, ℕ, Bool, List, length}
use Rattle.std.specs.List.{AllByRecursion}
use Rattle.akl_model.specs.declared.label.Label.{Label}
use Rattle.akl_model.specs.declared.label.Receipt.{Receipt}
use Rattle.akl_model.specs.Derivations.{Outcome, done, failed, suspended, out_of_budget}
use Rattle.step_commit.specs.Receipts.{AreReceipts, ArePlannedLast}
use Rattle.par_workers.specs.Shared.{AreByWorkers}
use Rattle.akl_run.specs.declared.loaded.Loaded.{Loaded}
use Rattle.akl_run.specs.Loads.{IsLoadedFrom}
use Rattle.akl_run.specs.declared.report.Status.{Status}
use Rattle.akl_run.specs.declared.report.Refusal.{Refusal}
use Rattle.akl_run.specs.Runs.{Run, IsRun}

-- the outcome that a status stands for
abbrev pub IsStatusOf : Status → Outcome → Type 0
IsStatusOf Status.Done o = o ≡ done
IsStatusOf Status.Failed o = o ≡ failed
IsStatusOf Status.Suspended o = (k : ℕ) × (o ≡ suspended k)
IsStatusOf Status.Budget o = o ≡ out_of_budget
IsStatusOf s o = ⊥

-- each label of these lists was planned by all labels before it, or together with the label before it
abbrev pub AreAllPlannedLast : List (List Receipt) → Type 0
AreAllPlannedLast = AllByRecursion ArePlannedLast

-- each label is by one of the workers 1 to so many, and there is a list for each of them, worker 1's first: its labels with their places in
-- the journal, each once and in order, planned by labels before it; a worker alone planned each by all of them, or together with the label before it
pub record AreOfWorkers (workers : ℕ) (journal : List Label) (receipts : List (List Receipt)) : Type 0 where
  pub labels : AreByWorkers workers journal
  pub count : length receipts ≡ workers
  pub are_receipts : AreReceipts 1 journal receipts
  pub alone : workers ≡ 1 → AreAllPlannedLast receipts

-- the run is that of the query that is that of two texts, by so many workers, with models where they are asked
pub record IsRunOf (program query : List ℕ) (workers budget : ℕ) (models : Bool) (r : Run) (receipts : List (List Receipt)) : Type 0 where
  pub loaded : Loaded
  pub is_loaded : IsLoadedFrom program query loaded
  pub is_program : r.program ≡ loaded.program
  pub run : IsRun loaded.query budget models r
  pub of_workers : AreOfWorkers workers r.journal receipts

-- why a loaded query's run doesn't end: want of memory, which is free
pub data RunStops : Status → Refusal → Type 0 where
  no_memory : RunStops Status.NoMemory Refusal.Nothing
