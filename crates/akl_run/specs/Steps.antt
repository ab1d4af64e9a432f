-- The steps of a command, of which the clauses of its functions speak.
use Rattle.std.specs.Prelude.{◌≡◌, ◌≤◌, ℕ, List, [], option_map, Result, Ok, Err}
use Rattle.akl_args.specs.declared.flag.Flags.{Flags}
use Rattle.akl_run.specs.declared.report.Status.{Status}
use Rattle.akl_run.specs.declared.report.Refusal.{Refusal}
use Rattle.akl_run.specs.declared.report.Report.{Report}
use Rattle.akl_run.specs.declared.loaded.Loaded.{Loaded}
use Rattle.akl_run.specs.declared.prepare.Prepared.{Prepared}
use Rattle.akl_run.specs.declared.evaluate.Evaluated.{Evaluated}
use Rattle.akl_run.specs.declared.output.Unwritten.{Unwritten}
use Rattle.akl_run.specs.declared.stop.Stop.{Stop}
use Rattle.akl_run.specs.Loads.{IsLoadedFrom, TextsStop}
use Rattle.akl_run.specs.Reports.{RunStops}
use Rattle.box_tree.specs.Tables.{HasVariables}
use Rattle.akl_run.specs.Evaluations.{IsEvaluated}
use Rattle.akl_args.specs.Flags.{no_flags}
use Rattle.akl_run.specs.Outputs.{Outlet}
use Rattle.akl_run.specs.Written.{HasWritten, BreaksOff}
use Rattle.akl_args.specs.declared.options.Options.{Options}
use Rattle.akl_run.specs.declared.words.Asked.{Asked}
use Rattle.akl_run.specs.Words.{query_of, program_of}
use Rattle.akl_run.specs.Commands.{Side, IsAskedBy, IsGiven}

-- the words ask for this, and these are the program where it is made, the query, the number of workers, the budget, and the flags
pub record IsAsked (words : List (List ℕ)) (a : Asked) : Type 0 where
  pub options : Options
  pub asked : IsAskedBy words options
  pub program : option_map (λ text. text.items) a.program ≡ program_of options
  pub query : a.query.items ≡ query_of options
  pub workers : a.workers ≡ options.workers
  pub few_workers : (1 ≤ a.workers) × (a.workers ≤ 16)
  pub budget : a.budget ≡ options.budget
  pub flags : a.flags ≡ options.flags

-- the query over the program is that of the words and the source, and it is ready to run
pub record IsReady (words : List (List ℕ)) (before after : Side) (p : Prepared) : Type 0 where
  pub options : Options
  pub program : List ℕ
  pub asked : IsAskedBy words options
  pub given : IsGiven (program_of options) before after program
  pub loaded : IsLoadedFrom program (query_of options) p.loaded
  pub variables : HasVariables p.loaded.program p.loaded.query p.loaded.first_variable
  pub workers : p.workers ≡ options.workers
  pub few_workers : (1 ≤ p.workers) × (p.workers ≤ 16)
  pub budget : p.budget ≡ options.budget
  pub flags : p.flags ≡ options.flags

-- it was run
pub record IsRunAs (words : List (List ℕ)) (before after : Side) (e : Evaluated) : Type 0 where
  pub options : Options
  pub program : List ℕ
  pub loaded : Loaded
  pub asked : IsAskedBy words options
  pub given : IsGiven (program_of options) before after program
  pub is_loaded : IsLoadedFrom program (query_of options) loaded
  pub run : IsEvaluated loaded options.workers options.budget options.flags e

-- the report of a command that stopped: no run is answered
pub record IsStopped (stop : Stop) (r : Report) : Type 0 where
  pub status : r.status ≡ stop.status
  pub refusal : r.refusal ≡ stop.refusal
  pub journal : r.journal.items ≡ []
  pub receipts : r.receipts.items ≡ []
  pub models : r.models.items ≡ []
  pub written : r.written ≡ 0

-- how the writing of a run's text ended, with a status: the text was written whole, or up to a fault, or memory was wanting
pub data EndsWriting (e : Evaluated) (before after : Outlet) : Status → Type 0 where
  whole : {s : Status} → HasWritten e before after s → EndsWriting e before after s
  fault : BreaksOff e before after Unwritten.Fault → EndsWriting e before after Status.WriteFault
  memory : BreaksOff e before after Unwritten.Memory → EndsWriting e before after Status.NoMemory

-- the report of a run that has ended
pub record IsWritten (e : Evaluated) (before after : Side) (r : Report) : Type 0 where
  pub refusal : r.refusal ≡ Refusal.Nothing
  pub journal : r.journal.items ≡ e.core.journal
  pub receipts : r.receipts ≡ e.receipts
  pub models : r.models ≡ e.models
  pub writing : EndsWriting e (record { sink = before; written = 0 }) (record { sink = after; written = r.written }) r.status

-- the loaded query was run by worker 1 alone, without flags, and this is the report of it
pub record IsAnsweredAlone (l : Loaded) (budget : ℕ) (before after : Side) (r : Report) : Type 0 where
  pub run : Evaluated
  pub evaluated : IsEvaluated l 1 budget no_flags run
  pub written : IsWritten run before after r

-- so it was by so many workers, with flags
pub record IsAnswered (l : Loaded) (workers budget : ℕ) (flags : Flags) (before after : Side) (r : Report) : Type 0 where
  pub run : Evaluated
  pub evaluated : IsEvaluated l workers budget flags run
  pub written : IsWritten run before after r

-- the report of a query over a program, by their texts: it wasn't loaded, or its run didn't end, and nothing was written; or it was run
pub data IsReportOf (text query : List ℕ) (workers budget : ℕ) (flags : Flags) (before after : Side) (r : Report) : Type 0 where
  unloaded : (stop : Stop) → TextsStop text query stop.status stop.refusal → IsStopped stop r → after ≡ before → IsReportOf text query workers budget flags before after r
  unended : (stop : Stop) → RunStops stop.status stop.refusal → IsStopped stop r → after ≡ before → IsReportOf text query workers budget flags before after r
  answered : (l : Loaded) → IsLoadedFrom text query l → IsAnswered l workers budget flags before after r → IsReportOf text query workers budget flags before after r

-- the status with which the writing ended
abbrev pub status_by_writing : Result Status Unwritten → Status
status_by_writing (Ok s) = s
status_by_writing (Err Unwritten.Fault) = Status.WriteFault
status_by_writing (Err Unwritten.Memory) = Status.NoMemory
