-- A batch, and what its report says of it.
use Rattle.std.specs.Prelude.{◌≡◌, ◌<◌, ◌⊎◌, ℕ, List, [], ◌++◌, length, take, Some, Ok, Err}
use Rattle.std.specs.Io.KnownBytes.{append_known}
use Rattle.akl_terms.specs.declared.program.Program.{Program}
use Rattle.akl_args.specs.declared.batch.BatchOptions.{BatchOptions}
use Rattle.akl_args.specs.declared.options.WordsError.{WordsError}
use Rattle.akl_args.specs.Batches.{batch_reading}
use Rattle.akl_args.specs.Queries.{queries_in}
use Rattle.akl_run.specs.declared.report.Status.{Status}
use Rattle.akl_run.specs.declared.report.Refusal.{Refusal}
use Rattle.akl_run.specs.Loads.{IsLoadedProgram, ProgramStops}
use Rattle.akl_run.specs.Commands.{Side, HasFaulted, HasWorked, IsRead, ReadStops, IsFault}
use Rattle.akl_batch.specs.declared.reply.BatchReport.{BatchReport}
use Rattle.akl_batch.specs.Replies.{AreReplies}
use Rattle.akl_batch.specs.Text.{batch_text}

-- a batch: its words, its source and its sink before and after it, and its report
pub record Batch : Type 0 where
  pub words : List (List ℕ)
  pub source : Side
  pub source_after : Side
  pub sink : Side
  pub sink_after : Side
  pub report : BatchReport

-- the words ask for this
abbrev pub IsAskedBy : List (List ℕ) → BatchOptions → Type 0
IsAskedBy words o = batch_reading words ≡ Ok o

-- the words are refused; want of memory is free
pub data WordsStop (words : List (List ℕ)) : Status → Refusal → Type 0 where
  refused : {e : WordsError} → batch_reading words ≡ Err e → WordsStop words Status.Words (Refusal.Words e)
  no_memory : WordsStop words Status.NoMemory Refusal.Nothing

-- What ends a batch before anything is written, in the order of the work: the words, the source, the program. Want of memory may end it later too.
pub data Stops (words : List (List ℕ)) (before after : Side) : Status → Refusal → Type 0 where
  by_words : {s : Status} {f : Refusal} → WordsStop words s f → after ≡ before → Stops words before after s f
  by_reading : {s : Status} {f : Refusal} {o : BatchOptions} → IsAskedBy words o → ReadStops before after s f → Stops words before after s f
  by_program : {s : Status} {f : Refusal} {o : BatchOptions} {program : List ℕ} → IsAskedBy words o → IsRead before after program → ProgramStops program s f → Stops words before after s f

-- what was done: the queries of the words were answered over the program that was read, and a front of their text was written
pub record Wrote (b : Batch) (front rest : List ℕ) : Type 0 where
  pub options : BatchOptions
  pub asked : IsAskedBy b.words options
  pub program : List ℕ
  pub given : IsRead b.source b.source_after program
  pub base : Program
  pub is_program : IsLoadedProgram program base
  pub texts : List (List ℕ)
  pub are_replies : AreReplies program options.budget (queries_in options.text) b.report.replies.items texts
  pub whole : front ++ rest ≡ batch_text texts
  pub wrote : b.sink_after.bytes ≡ append_known b.sink.bytes front
  pub count : b.report.written ≡ length front

-- all of the text was written
abbrev pub WroteAll : Batch → Type 0
WroteAll b = (text : List ℕ) × Wrote b text []

-- a front of the text was written
abbrev pub WrotePart : Batch → Type 0
WrotePart b = (front : List ℕ) × (rest : List ℕ) × (0 < length rest) × Wrote b front rest

-- there are no replies, and nothing was written
pub record WroteNothing (b : Batch) : Type 0 where
  pub replies : b.report.replies.items ≡ []
  pub count : b.report.written ≡ 0
  pub same : b.sink_after.bytes ≡ b.sink.bytes

-- the statuses with which there are no replies
abbrev pub IsEarly : Status → Type 0
IsEarly Status.Words = Unit {0}
IsEarly Status.Program = Unit {0}
IsEarly Status.ReadFault = Unit {0}
IsEarly Status.NoMemory = Unit {0}
IsEarly s = ⊥

-- the statuses with which there is a reply to each query
abbrev pub IsLate : Status → Type 0
IsLate Status.Done = Unit {0}
IsLate Status.WriteFault = Unit {0}
IsLate s = ⊥

-- the report has this status and this refusal, unless a fault came in their place
abbrev pub IsUnlessFault : BatchReport → Status → Refusal → Type 0
IsUnlessFault r s f = IsFault r.status ⊎ ((r.status ≡ s) × (r.refusal ≡ f))

-- where the words are refused, the batch ends so
abbrev pub WordsEnd : Batch → Type 0
WordsEnd b = (e : WordsError) → batch_reading b.words ≡ Err e → IsUnlessFault b.report Status.Words (Refusal.Words e)

-- the words are a batch, over the program of this text: the front of what the source has, up to one byte more than a program may have
pub record Asks (b : Batch) (o : BatchOptions) (program : List ℕ) : Type 0 where
  pub asked : IsAskedBy b.words o
  pub text : List ℕ
  pub has : b.source.bytes ≡ Some text
  pub is_front : program ≡ take 1000001 text

-- where the program's text is refused, the batch ends so
abbrev pub ProgramEnds : Batch → Type 0
ProgramEnds b = (o : BatchOptions) (program : List ℕ) (s : Status) (f : Refusal) → Asks b o program → ProgramStops program s f → (IsFault s → ⊥) → IsUnlessFault b.report s f

-- where the program is loaded, the source and the sink work and there is memory, all is written
abbrev pub IsComplete : Batch → Type 0
IsComplete b = (o : BatchOptions) (program : List ℕ) (p : Program) → Asks b o program → IsLoadedProgram program p → HasWorked b.source b.source_after → HasWorked b.sink b.sink_after
    → (b.report.status ≡ Status.NoMemory → ⊥) → b.report.status ≡ Status.Done

-- ---- all that a report says of its batch
pub record IsBatchReported (b : Batch) : Type 0 where
  -- Each reply is its query's own, and what was appended to the sink is the text of the replies in their order.
  pub done : b.report.status ≡ Status.Done → WroteAll b
  -- A front of the text was written before the sink failed.
  pub write_fault : b.report.status ≡ Status.WriteFault → HasFaulted b.sink b.sink_after
  pub written_part : b.report.status ≡ Status.WriteFault → WrotePart b
  -- Before another status there are no replies and nothing was written, and each comes with its refusal from one cause, in the order of the work.
  pub nothing : IsEarly b.report.status → WroteNothing b
  pub stops : IsEarly b.report.status → Stops b.words b.source b.source_after b.report.status b.report.refusal
  pub read_fault : b.report.status ≡ Status.ReadFault → HasFaulted b.source b.source_after
  -- What is refused ends the batch so, unless a fault comes before.
  pub words : WordsEnd b
  pub program : ProgramEnds b
  -- All else is answered.
  pub complete : IsComplete b
  -- No other status comes, and where there are replies the batch isn't refused.
  pub status : IsEarly b.report.status ⊎ IsLate b.report.status
  pub refusal : IsLate b.report.status → b.report.refusal ≡ Refusal.Nothing
