-- The steps of a batch, of which the clauses of private functions speak.
use Rattle.std.specs.Prelude.{◌≡◌, ◌<◌, ◌≤◌, ℕ, List, [], ◌++◌, length, map, Option, Some, IfSome, Result, IfOk, IfErr, All, Vec}
use Rattle.std.specs.List.{AllZip, slice_get}
use Rattle.std.specs.Io.KnownBytes.{append_known}
use Rattle.std.specs.Global.{Global}
use Rattle.akl_terms.specs.declared.program.Program.{Program}
use Rattle.akl_args.specs.declared.batch.BatchOptions.{BatchOptions}
use Rattle.akl_args.specs.Queries.{queries_in}
use Rattle.akl_run.specs.declared.report.Status.{Status}
use Rattle.akl_run.specs.declared.report.Refusal.{Refusal}
use Rattle.akl_run.specs.declared.stop.Stop.{Stop}
use Rattle.akl_run.specs.Loads.{IsLoadedProgram, IsLoadedFrom, ProgramStops}
use Rattle.akl_run.specs.Commands.{Side, IsRead, HasFaulted}
use Rattle.akl_run.specs.declared.report.Report.{Report}
use Rattle.akl_run.specs.declared.loaded.Loaded.{Loaded}
use Rattle.akl_batch.specs.declared.text_sink.TextSink.{TextSink}
use Rattle.akl_batch.specs.declared.sharing.Answered.{Answered}
use Rattle.akl_batch.specs.declared.reply.Answer.{Answer}
use Rattle.akl_batch.specs.declared.reply.Reply.{Reply}
use Rattle.akl_batch.specs.declared.reply.BatchReport.{BatchReport}
use Rattle.akl_batch.specs.Replies.{IsAnswer, refused_text}
use Rattle.akl_batch.specs.Text.{batch_text}
use Rattle.akl_batch.specs.Batches.{IsAskedBy}

-- it stops as the program of a text does
abbrev pub StopsAs : List ℕ → Stop → Type 0
StopsAs program stop = ProgramStops program stop.status stop.refusal

-- a query's answer that says why it is refused
pub record SaysWhy (f : Refusal) (a : Answer) : Type 0 where
  pub status : a.reply.status ≡ Status.Query
  pub refusal : a.reply.refusal ≡ f
  pub journal : a.reply.journal.items ≡ []
  pub is_text : a.text.items ≡ refused_text f

-- the answer that is taken from the report of a query's run and from the sink to which its text was written whole
pub record IsTakenFrom (r : Report) (sink : TextSink) (a : Answer) : Type 0 where
  pub status : a.reply.status ≡ r.status
  pub whole : r.status ≡ Status.WriteFault → ⊥
  pub memory : r.status ≡ Status.NoMemory → ⊥
  pub refusal : a.reply.refusal ≡ r.refusal
  pub journal : a.reply.journal ≡ r.journal
  pub is_text : a.text ≡ sink.bytes

-- it is the answer to each query that is loaded so
abbrev pub AnswersLoaded : Loaded → ℕ → Answer → Type 0
AnswersLoaded l budget a = (program query : List ℕ) → length query ≤ 10000 → IsLoadedFrom program query l → IsAnswer program query budget a

-- it is the answer to the query of its number
pub record IsAnswered (program : List ℕ) (queries : List (Vec ℕ Global)) (budget : ℕ) (a : Answered) : Type 0 where
  pub query : Vec ℕ Global
  pub at : slice_get queries a.at ≡ Some query
  pub answer : IsAnswer program query.items budget a.answer

-- the answers that one worker gives, or why it gives none
pub record IsPart (program : List ℕ) (queries : List (Vec ℕ Global)) (budget : ℕ) (r : Result (Vec Answered Global) Stop) : Type 0 where
  pub answered : IfOk r (λ v. All (IsAnswered program queries budget) v.items)
  pub stop : IfErr r (StopsAs program)

-- in the place of each query stands an answer to it, or nothing
abbrev pub FitPlaces : List ℕ → List (Vec ℕ Global) → ℕ → List (Option Answer) → Type 0
FitPlaces program queries budget places = AllZip (λ query place. IfSome place (IsAnswer program query.items budget)) queries places

-- the numbers of answers are below a number of places
abbrev pub AreWithin : ℕ → List Answered → Type 0
AreWithin count answered = All (λ a. a.at < count) answered

abbrev pub IsPartWithin : ℕ → Result (Vec Answered Global) Stop → Type 0
IsPartWithin count r = IfOk r (λ v. AreWithin count v.items)

-- with answers to queries places that fit these become places that fit them
abbrev pub PutsInto : List Answered → List (Option Answer) → List (Option Answer) → Type 0
PutsInto answered old new =
    (program : List ℕ) (queries : List (Vec ℕ Global)) (budget : ℕ) → All (IsAnswered program queries budget) answered → FitPlaces program queries budget old → FitPlaces program queries budget new

abbrev pub GathersInto : List (Result (Vec Answered Global) Stop) → List (Option Answer) → List (Option Answer) → Type 0
GathersInto parts old new =
    (program : List ℕ) (queries : List (Vec ℕ Global)) (budget : ℕ) → All (IsPart program queries budget) parts → FitPlaces program queries budget old → FitPlaces program queries budget new

-- it is why one of the workers gave none
abbrev pub StopsOneOf : List (Result (Vec Answered Global) Stop) → Stop → Type 0
StopsOneOf parts stop = (program : List ℕ) (queries : List (Vec ℕ Global)) (budget : ℕ) → All (IsPart program queries budget) parts → StopsAs program stop

-- each query has an answer to it
abbrev pub AreAnswers : List ℕ → List (Vec ℕ Global) → ℕ → List Answer → Type 0
AreAnswers program queries budget answers = AllZip (λ query answer. IsAnswer program query.items budget answer) queries answers

-- the words were read, and the queries were answered over the program
pub record AreAnswersOf (words : List (List ℕ)) (before after : Side) (answers : List Answer) : Type 0 where
  pub options : BatchOptions
  pub asked : IsAskedBy words options
  pub program : List ℕ
  pub given : IsRead before after program
  pub base : Program
  pub is_program : IsLoadedProgram program base
  pub are_answers : AllZip (λ query answer. IsAnswer program query options.budget answer) (queries_in options.text) answers

-- the replies of answers, and the text of them all
pub record AreGathered (answers : List Answer) (rs : List Reply) (text : List ℕ) : Type 0 where
  pub replies : rs ≡ map (λ a. a.reply) answers
  pub is_text : text ≡ batch_text (map (λ a. a.text.items) answers)

-- how the writing of a text ended, with a status and so many bytes: it was written whole, or up to a fault
pub data EndsWriting (before after : Side) (text : List ℕ) : Status → ℕ → Type 0 where
  whole : after.bytes ≡ append_known before.bytes text → EndsWriting before after text Status.Done (length text)
  fault : (front rest : List ℕ) → front ++ rest ≡ text → 0 < length rest → after.bytes ≡ append_known before.bytes front → HasFaulted before after → EndsWriting before after text Status.WriteFault (length front)

-- the report of replies whose text was written
pub record IsWritten (rs : List Reply) (text : List ℕ) (before after : Side) (r : BatchReport) : Type 0 where
  pub refusal : r.refusal ≡ Refusal.Nothing
  pub replies : r.replies.items ≡ rs
  pub writing : EndsWriting before after text r.status r.written

-- the report of a batch that stopped: there are no replies
pub record IsStopped (stop : Stop) (r : BatchReport) : Type 0 where
  pub status : r.status ≡ stop.status
  pub refusal : r.refusal ≡ stop.refusal
  pub replies : r.replies.items ≡ []
  pub written : r.written ≡ 0
