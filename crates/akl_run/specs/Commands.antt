-- A command, and what its report says of it.
use Rattle.std.specs.Prelude.{◌≡◌, ◌⊎◌, ℕ, ◌<◌, ◌≤◌, List, [], length, take, map, Option, Some, None, IfSome, Ok, Err}
use Rattle.std.specs.Io.KnownBytes.{prepend_known, append_known}
use Rattle.akl_outside.specs.Counts.{Rose, next_count}
use Rattle.akl_outside.specs.Transfer.{ReadSome}
use Rattle.akl_terms.specs.declared.program.Program.{Program}
use Rattle.akl_lexemes.specs.declared.error.SyntaxError.TheVariants.{TooLong}
use Rattle.akl_run.specs.declared.report.Status.{Status}
use Rattle.akl_run.specs.declared.report.Refusal.{Refusal}
use Rattle.akl_run.specs.declared.report.Report.{Report}
use Rattle.akl_run.specs.declared.loaded.Loaded.{Loaded}
use Rattle.akl_args.specs.declared.options.Options.{Options}
use Rattle.akl_args.specs.declared.options.WordsError.{WordsError}
use Rattle.akl_args.specs.Table.{reading}
use Rattle.akl_run.specs.Words.{query_of, program_of}
use Rattle.akl_run.specs.Loads.{IsLoadedProgram, ProgramStops, QueryStops, IsLoadedFrom}
use Rattle.akl_run.specs.Runs.{Run}
use Rattle.akl_run.specs.Text.{IsRunText, IsRunFront}
use Rattle.akl_run.specs.Reports.{IsStatusOf, IsRunOf, RunStops}

-- What is seen of a source or of a sink: the bytes still to come, or taken so far, where they are known, and how many
-- of its calls failed.
pub record Side : Type 0 where
  pub bytes : Option (List ℕ)
  pub faults : ℕ

abbrev pub side : Option (List ℕ) → ℕ → Side
side bytes faults = record { bytes = bytes; faults = faults }

-- some call failed in between, or the count stands at the last number, from which it can't go up
abbrev pub HasFaulted : Side → Side → Type 0
HasFaulted before after = Rose before.faults after.faults

-- no call failed in between
abbrev pub HasWorked : Side → Side → Type 0
HasWorked before after = after.faults < next_count before.faults

-- a command: its words, its source and its sink before and after it, and its report
pub record Command : Type 0 where
  pub words : List (List ℕ)
  pub source : Side
  pub source_after : Side
  pub sink : Side
  pub sink_after : Side
  pub report : Report

-- ---- the words and the source

-- the words are a command, with a query that isn't too long
pub record IsAskedBy (words : List (List ℕ)) (o : Options) : Type 0 where
  pub reads : reading words ≡ Ok o
  pub short : length (query_of o) ≤ 10000

-- the words are refused, or have a query that is too long; want of memory is free
pub data WordsStop (words : List (List ℕ)) : Status → Refusal → Type 0 where
  refused : {e : WordsError} → reading words ≡ Err e → WordsStop words Status.Words (Refusal.Words e)
  long_query : {o : Options} → reading words ≡ Ok o → 10000 < length (query_of o) → WordsStop words Status.Query (Refusal.TextOf (TooLong (length (query_of o))))
  no_memory : WordsStop words Status.NoMemory Refusal.Nothing

-- these bytes were read of a source: all that it had, unless these are more than a program may have
pub record IsRead (before after : Side) (bytes : List ℕ) : Type 0 where
  pub read : before.bytes ≡ prepend_known bytes after.bytes
  pub few : length bytes ≤ 1000001
  pub ended : length bytes ≤ 1000000 → IfSome after.bytes (λ rest. rest ≡ [])
  pub whole : length bytes ≤ 1000000 → IfSome before.bytes (λ all. bytes ≡ all)

-- the source failed before a program's bytes were read; want of memory is free
pub data ReadStops (before after : Side) : Status → Refusal → Type 0 where
  fault : HasFaulted before after → ReadSome before.bytes after.bytes (λ n. n ≤ 1000000) → ReadStops before after Status.ReadFault Refusal.Nothing
  no_memory_read : ReadSome before.bytes after.bytes (λ n. n ≤ 1000001) → ReadStops before after Status.NoMemory Refusal.Nothing

-- the program's text: what was read of the source, or what is made, and then the source isn't read
abbrev pub IsGiven : Option (List ℕ) → Side → Side → List ℕ → Type 0
IsGiven None before after program = IsRead before after program
IsGiven (Some made) before after program = (after ≡ before) × (program ≡ made)

-- What ends a command before anything is written, in the order of the work: the words, the source, the program, the query, its run.
pub data Stops (words : List (List ℕ)) (before after : Side) : Status → Refusal → Type 0 where
  by_words : {s : Status} {f : Refusal} → WordsStop words s f → after ≡ before → Stops words before after s f
  by_reading : {s : Status} {f : Refusal} {o : Options} → IsAskedBy words o → program_of o ≡ None → ReadStops before after s f → Stops words before after s f
  by_program : {s : Status} {f : Refusal} {o : Options} {program : List ℕ} → IsAskedBy words o → IsGiven (program_of o) before after program → ProgramStops program s f → Stops words before after s f
  by_query : {s : Status} {f : Refusal} {o : Options} {program : List ℕ} {p : Program} → IsAskedBy words o → IsGiven (program_of o) before after program → IsLoadedProgram program p → QueryStops p (query_of o) s f
      → Stops words before after s f
  by_run : {s : Status} {f : Refusal} {o : Options} {program : List ℕ} {l : Loaded} → IsAskedBy words o → IsGiven (program_of o) before after program → IsLoadedFrom program (query_of o) l → RunStops s f
      → Stops words before after s f

-- ---- how a command ends, by its texts

-- the source failed, or memory was refused: such an end may come in the place of any other
abbrev pub IsFault : Status → Type 0
IsFault Status.ReadFault = Unit {0}
IsFault Status.NoMemory = Unit {0}
IsFault s = ⊥

-- the report has this status and this refusal, unless a fault came in their place
abbrev pub IsUnlessFault : Report → Status → Refusal → Type 0
IsUnlessFault r s f = IsFault r.status ⊎ ((r.status ≡ s) × (r.refusal ≡ f))

-- where the words are refused, or have a query that is too long, the command ends so
abbrev pub WordsEnd : Command → Type 0
WordsEnd c = (s : Status) (f : Refusal) → WordsStop c.words s f → (IsFault s → ⊥) → IsUnlessFault c.report s f

-- this is the program's text: the front of what the source has, up to one byte more than a program may have, or what is made
abbrev pub HasProgram : Option (List ℕ) → Side → List ℕ → Type 0
HasProgram None source program = (text : List ℕ) × (source.bytes ≡ Some text) × (program ≡ take 1000001 text)
HasProgram (Some made) source program = program ≡ made

-- the command asks for this, over the program of this text
pub record Asks (c : Command) (o : Options) (program : List ℕ) : Type 0 where
  pub asked : IsAskedBy c.words o
  pub has : HasProgram (program_of o) c.source program

-- where the program's text is refused, the command ends so
abbrev pub ProgramEnds : Command → Type 0
ProgramEnds c = (o : Options) (program : List ℕ) (s : Status) (f : Refusal) → Asks c o program → ProgramStops program s f → (IsFault s → ⊥) → IsUnlessFault c.report s f

-- where the program is loaded, and the query's text is refused over it, the command ends so
abbrev pub QueryEnds : Command → Type 0
QueryEnds c = (o : Options) (program : List ℕ) (p : Program) (s : Status) (f : Refusal) → Asks c o program → IsLoadedProgram program p → QueryStops p (query_of o) s f → (IsFault s → ⊥) → IsUnlessFault c.report s f

-- the statuses of outcomes
abbrev pub IsOutcome : Status → Type 0
IsOutcome Status.Done = Unit {0}
IsOutcome Status.Failed = Unit {0}
IsOutcome Status.Suspended = Unit {0}
IsOutcome Status.Budget = Unit {0}
IsOutcome s = ⊥

-- where the query is loaded, the source and the sink work and there is memory, the query has an outcome
abbrev pub IsComplete : Command → Type 0
IsComplete c = (o : Options) (program : List ℕ) (l : Loaded) → Asks c o program → IsLoadedFrom program (query_of o) l → HasWorked c.source c.source_after → HasWorked c.sink c.sink_after
    → (c.report.status ≡ Status.NoMemory → ⊥) → IsOutcome c.report.status

-- ---- what was written

-- the report is of this run, which is that of the words' query over its program: it has its journal and its models
pub record ReportsRun (c : Command) (o : Options) (r : Run) : Type 0 where
  pub program : List ℕ
  pub asked : IsAskedBy c.words o
  pub given : IsGiven (program_of o) c.source c.source_after program
  pub is_run : IsRunOf program (query_of o) o.workers o.budget o.flags.model r (map (λ rs. rs.items) c.report.receipts.items)
  pub journal : c.report.journal.items ≡ r.journal
  pub models : c.report.models.items ≡ r.models

-- the run was written whole: what was appended is its text
pub record WroteRun (c : Command) : Type 0 where
  pub options : Options
  pub run : Run
  pub reports : ReportsRun c options run
  pub is_status : IsStatusOf c.report.status run.outcome
  pub text : List ℕ
  pub is_text : IsRunText options.flags run text
  pub wrote : c.sink_after.bytes ≡ append_known c.sink.bytes text
  pub count : c.report.written ≡ length text

-- a front of the text was written, of as much of it as was made
pub record WrotePart (c : Command) : Type 0 where
  pub options : Options
  pub run : Run
  pub reports : ReportsRun c options run
  pub front : List ℕ
  pub is_front : IsRunFront options.flags run front
  pub wrote : c.sink_after.bytes ≡ append_known c.sink.bytes front
  pub count : c.report.written ≡ length front

-- no run is answered, and nothing was written
pub record WroteNothing (c : Command) : Type 0 where
  pub journal : c.report.journal.items ≡ []
  pub receipts : c.report.receipts.items ≡ []
  pub models : c.report.models.items ≡ []
  pub count : c.report.written ≡ 0
  pub same : c.sink_after.bytes ≡ c.sink.bytes

-- what was done before memory was wanting
pub data RanOut (c : Command) : Type 0 where
  -- No run is answered, nothing was written, and memory was wanting at one of the steps.
  before_writing : WroteNothing c → Stops c.words c.source c.source_after c.report.status c.report.refusal → RanOut c
  -- The run had ended, and its models were made: the journal is the run's, and a front of its text was written.
  in_writing : WrotePart c → RanOut c

-- the statuses with which no run is answered
abbrev pub IsEarly : Status → Type 0
IsEarly Status.Words = Unit {0}
IsEarly Status.Program = Unit {0}
IsEarly Status.Query = Unit {0}
IsEarly Status.ReadFault = Unit {0}
IsEarly s = ⊥

-- the statuses with which a run may have been written, or a front of it
abbrev pub IsLate : Status → Type 0
IsLate Status.Done = Unit {0}
IsLate Status.Failed = Unit {0}
IsLate Status.Suspended = Unit {0}
IsLate Status.Budget = Unit {0}
IsLate Status.WriteFault = Unit {0}
IsLate Status.NoMemory = Unit {0}
IsLate s = ⊥

-- ---- all that a report says of its command
pub record IsReported (c : Command) : Type 0 where
  -- The headline: what was appended to the sink is the text of a run with this outcome.
  pub outcome : IsOutcome c.report.status → WroteRun c
  -- A front of the text was written before the sink failed.
  pub write_fault : c.report.status ≡ Status.WriteFault → HasFaulted c.sink c.sink_after
  pub written_part : c.report.status ≡ Status.WriteFault → WrotePart c
  -- Memory was wanting before anything was written, or behind a front of the text.
  pub no_memory : c.report.status ≡ Status.NoMemory → RanOut c
  -- Before another status no run is answered and nothing was written, and each comes with its refusal from one cause, in the order of the work.
  pub nothing : IsEarly c.report.status → WroteNothing c
  pub stops : IsEarly c.report.status → Stops c.words c.source c.source_after c.report.status c.report.refusal
  pub read_fault : c.report.status ≡ Status.ReadFault → HasFaulted c.source c.source_after
  -- What is refused ends the command so, unless a fault comes before.
  pub words : WordsEnd c
  pub program : ProgramEnds c
  pub query : QueryEnds c
  -- All else has an outcome.
  pub complete : IsComplete c
  -- A run that was written has no refusal, and want of memory has none.
  pub refusal : IsLate c.report.status → c.report.refusal ≡ Refusal.Nothing
