-- The reply to one query of a batch. It is the query's own: the program's bytes, the query's and the budget alone say what it is.
use Rattle.std.specs.Prelude.{◌≡◌, ◌<◌, ◌≤◌, ℕ, List, [], ◌∷◌, ◌++◌, length, codes, false}
use Rattle.akl_terms.specs.declared.program.Program.{Program}
use Rattle.akl_lexemes.specs.declared.error.SyntaxError.TheVariants.{TooLong}
use Rattle.akl_model.specs.declared.label.Receipt.{Receipt}
use Rattle.akl_run.specs.declared.report.Status.{Status}
use Rattle.akl_run.specs.declared.report.Refusal.{Refusal}
use Rattle.akl_run.specs.Loads.{IsLoadedProgram, QueryStops}
use Rattle.akl_run.specs.Lines.{cause_of}
use Rattle.akl_args.specs.Flags.{no_flags}
use Rattle.akl_run.specs.Runs.{Run}
use Rattle.akl_run.specs.Text.{IsRunText}
use Rattle.akl_run.specs.Reports.{IsStatusOf, IsRunOf}
use Rattle.akl_batch.specs.declared.reply.Reply.{Reply}
use Rattle.akl_batch.specs.declared.reply.Answer.{Answer}

-- why a query's text is refused over the program of a text
pub data IsRefusedFor (program query : List ℕ) : Refusal → Type 0 where
  too_long : 10000 < length query → IsRefusedFor program query (Refusal.TextOf (TooLong (length query)))
  unloaded : {p : Program} {f : Refusal} → length query ≤ 10000 → IsLoadedProgram program p → QueryStops p query Status.Query f → IsRefusedFor program query f

-- the line of a query that is refused
abbrev pub refused_text : Refusal → List ℕ
refused_text f = codes "refused: " ++ cause_of f ++ codes "\n"

-- The query was run by worker 1 alone: the journal is a derivation from the box of this query over this program, within the budget,
-- the status is its outcome, and this is its text.
pub record HasRun (program query : List ℕ) (budget : ℕ) (r : Reply) (text : List ℕ) : Type 0 where
  pub short : length query ≤ 10000
  pub run : Run
  pub is_status : IsStatusOf r.status run.outcome
  pub receipts : List (List Receipt)
  pub is_run : IsRunOf program query 1 budget false run receipts
  pub journal : r.journal.items ≡ run.journal
  pub is_text : IsRunText no_flags run text
  pub refusal : r.refusal ≡ Refusal.Nothing

-- the query was refused, and this is its line
pub record WasRefused (program query : List ℕ) (r : Reply) (text : List ℕ) : Type 0 where
  pub status : r.status ≡ Status.Query
  pub why : IsRefusedFor program query r.refusal
  pub journal : r.journal.items ≡ []
  pub is_text : text ≡ refused_text r.refusal

-- a query's own reply, with its text
pub data IsOwn (program query : List ℕ) (budget : ℕ) (r : Reply) (text : List ℕ) : Type 0 where
  ran : HasRun program query budget r text → IsOwn program query budget r text
  refused : WasRefused program query r text → IsOwn program query budget r text

-- the reply says that the query is refused where it is
abbrev pub SaysRefused : List ℕ → List ℕ → Reply → Type 0
SaysRefused program query r = (f : Refusal) → IsRefusedFor program query f → (r.status ≡ Status.Query) × (r.refusal ≡ f)

-- each query has its own reply, in their order
pub data AreReplies (program : List ℕ) (budget : ℕ) : List (List ℕ) → List Reply → List (List ℕ) → Type 0 where
  nothing : AreReplies program budget [] [] []
  one_more : {query text : List ℕ} {queries texts : List (List ℕ)} {r : Reply} {rs : List Reply} → IsOwn program query budget r text → SaysRefused program query r → AreReplies program budget queries rs texts
      → AreReplies program budget (query ∷ queries) (r ∷ rs) (text ∷ texts)

abbrev pub IsAnswer : List ℕ → List ℕ → ℕ → Answer → Type 0
IsAnswer program query budget a = IsOwn program query budget a.reply a.text.items
