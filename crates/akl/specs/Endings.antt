-- How the process ends, and what standard output and standard error get.
use Rattle.std.specs.Prelude.{◌≡◌, ℕ, true, false, ◌⊎◌, List, None, IfSome, codes}
use Rattle.std.specs.Io.KnownBytes.{append_known}
use Rattle.std.specs.declared.io.ErrorKind.{ErrorKind}
use Rattle.std.specs.declared.io.ErrorKind.TheVariants.{OutOfMemory}
use Rattle.akl_args.specs.declared.options.WordsError.TheVariants.{Unknown}
use Rattle.akl_run.specs.declared.report.Refusal.{Refusal}
use Rattle.akl_run.specs.declared.report.Status.{Status}
use Rattle.akl_run.specs.declared.report.Report.{Report}
use Rattle.akl_run.specs.Lines.{fixed_line, refusal_text}
use Rattle.akl_run.specs.Commands.{Side, HasFaulted, IsReported}
use Rattle.akl_batch.specs.declared.reply.BatchReport.{BatchReport}
use Rattle.akl_batch.specs.Batches.{IsBatchReported}
use Rattle.akl.specs.declared.ending.Ending.{Ending}
use Rattle.akl.specs.Notices.{notice_of}
use Rattle.akl.specs.Words.{is_batch}

-- the text was appended whole, or a write failed
abbrev pub Says : List ℕ → Side → Side → Type 0
Says text old new = (new.bytes ≡ append_known old.bytes text) ⊎ HasFaulted old new

-- the line of a status and its refusal was said; or, where it had to be made, and there was no memory for it, the line that says so
abbrev pub SaysWhy : Status → Refusal → Side → Side → Type 0
SaysWhy status refusal old new = Says (refusal_text status refusal) old new ⊎ ((fixed_line status ≡ None) × Says (codes "akl: out of memory\n") old new)

-- why there are no words: there was no memory, or they are no text, and then no word is known
abbrev pub words_status : ErrorKind → Status
words_status OutOfMemory = Status.NoMemory
words_status _ = Status.Words

abbrev pub words_refusal : ErrorKind → Refusal
words_refusal OutOfMemory = Refusal.Nothing
words_refusal _ = Refusal.Words (Unknown 0)

-- there are no words, and the process ends with what says why
pub record IsRefused (kind : ErrorKind) (errors errors' : Side) (ending : Ending) : Type 0 where
  pub status : ending.status ≡ words_status kind
  pub line : SaysWhy (words_status kind) (words_refusal kind) errors errors'

-- the notice was printed, or standard output failed, and then standard error says so
abbrev pub Notifies : List ℕ → Side → Side → Side → Side → Ending → Type 0
Notifies text out out' errors errors' ending =
    ((out'.bytes ≡ append_known out.bytes text) × (ending.status ≡ Status.Done) × (errors' ≡ errors))
    ⊎ (HasFaulted out out' × (ending.status ≡ Status.WriteFault) × Says (codes "akl: write fault\n") errors errors')

-- the command was run as its report says, and the process ends with the report's status and says its line
pub record Answers (words : List (List ℕ)) (program program' out out' errors errors' : Side) (ending : Ending) : Type 0 where
  pub report : Report
  pub reported : IsReported (record { words = words; source = program; source_after = program'; sink = out; sink_after = out'; report = report })
  pub status : ending.status ≡ report.status
  pub line : SaysWhy report.status report.refusal errors errors'

-- the batch was run as its report says, and the process ends with the report's status and says its line
pub record AnswersBatch (words : List (List ℕ)) (program program' out out' errors errors' : Side) (ending : Ending) : Type 0 where
  pub report : BatchReport
  pub reported : IsBatchReported (record { words = words; source = program; source_after = program'; sink = out; sink_after = out'; report = report })
  pub status : ending.status ≡ report.status
  pub line : SaysWhy report.status report.refusal errors errors'

-- by the words a notice was printed, or a query or a batch was run
pub record IsDone (help version : List ℕ) (words : List (List ℕ)) (program program' out out' errors errors' : Side) (ending : Ending) : Type 0 where
  pub notice : IfSome (notice_of help version words) (λ text. Notifies text out out' errors errors' ending)
  pub query : notice_of help version words ≡ None → is_batch words ≡ false → Answers words program program' out out' errors errors' ending
  pub batch : notice_of help version words ≡ None → is_batch words ≡ true → AnswersBatch words program program' out out' errors errors' ending
