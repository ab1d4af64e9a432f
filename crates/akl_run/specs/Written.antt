-- What is written of a run, of which the clauses of private functions speak.
use Rattle.std.specs.Prelude.{◌≡◌, ℕ, Bool, true, false, List, [], ◌∷◌, ◌++◌, length, map, take, Option, Some, None, slice_get, option_map}
use Rattle.std.specs.List.{AllByRecursion}
use Rattle.std.proofs.Common.{Vec, Global}
use Rattle.akl_terms.specs.declared.name.Name.{Name}
use Rattle.akl_model.specs.Config.{Config, Content, Found, box_at}
use Rattle.akl_model.specs.Derivations.{IsAnswer, AreAnswers, Outcome}
use Rattle.step_commit.specs.Cores.{CoreValue, TableIn}
use Rattle.tree_models.specs.declared.model.TreeModel.{TreeModel}
use Rattle.root_answers.specs.Models.{IsModelOf}
use Rattle.root_answers.specs.Roots.{OfRoot, root_box, symbols_of}
use Rattle.akl_run.specs.declared.evaluate.Evaluated.{Evaluated}
use Rattle.akl_run.specs.declared.output.Unwritten.{Unwritten}
use Rattle.akl_run.specs.declared.report.Status.{Status}
use Rattle.akl_run.specs.Reports.{IsStatusOf}
use Rattle.akl_run.specs.Runs.{Run, IsRun}
use Rattle.akl_run.specs.Text.{IsShown, AreTexts, AreOthers, AreWaits, IsRunText, IsRunFront}
use Rattle.akl_run.specs.Outputs.{Outlet, HasAppended, IsCause}

-- ---- the answers

-- the model is one of the box, where there is one
abbrev pub MayShow : Content → Option TreeModel → Type 0
MayShow b None = Unit {0}
MayShow b (Some m) = IsModelOf b m

-- the root box is an answer with these lines where so many others come before it, if the model in its place is its own, or none
abbrev pub ShowsRoot : Evaluated → Name → ℕ → Option (List ℕ) → Type 0
ShowsRoot e name before None = OfRoot e.core name (λ b gs. IsAnswer b gs → ⊥)
ShowsRoot e name before (Some text) =
    OfRoot e.core name (λ b gs. IsAnswer b gs × (MayShow b (slice_get e.models.items before) → IsShown (symbols_of e.core) b (slice_get e.models.items before) text))

abbrev pub HasShown : Evaluated → Name → ℕ → Option (Vec ℕ Global) → Type 0
HasShown e name before o = ShowsRoot e name before (option_map (λ (v : Vec ℕ Global). v.items) o)

-- the names of boxes, where they are asked
abbrev pub named : Bool → List Found → List Name
named true others = map (λ f. f.content.name) others
named false others = []

-- they are root boxes
abbrev pub AreRoots : (c : CoreValue) → TableIn c → List Found → Type 0
AreRoots c t others = AllByRecursion (λ (f : Found). (f ≡ root_box f.content f.goals) × (box_at f.content.name t.config.roots ≡ Some (root_box f.content f.goals))) others

-- the name of one, where it is asked
abbrev pub listed : Bool → Name → List Name
listed true name = name ∷ []
listed false name = []

-- these are the texts of all answers of a run, and the names of the other root boxes where it is asked why they wait
pub record AreAllTexts (e : Evaluated) (count : ℕ) (names : List Name) (text : List ℕ) (t : TableIn e.core) : Type 0 where
  pub answers : List Content
  pub are_answers : AreAnswers t.config.roots answers
  pub counted : count ≡ length answers
  pub are_texts : AreTexts (symbols_of e.core) e.models.items 0 answers text
  pub others : List Found
  pub are_others : AreOthers t.config.roots others
  pub are_named : names ≡ named e.flags.why others

-- these are the texts of its first answers
pub record AreFirstTexts (e : Evaluated) (text : List ℕ) (t : TableIn e.core) : Type 0 where
  pub first : List Content
  pub left : List Content
  pub are_answers : AreAnswers t.config.roots (first ++ left)
  pub are_texts : AreTexts (symbols_of e.core) e.models.items 0 first text

-- the texts of all answers were written, so many, and the names of the other root boxes are these, where it is asked why they wait
pub record HasWrittenAnswers (e : Evaluated) (names : List Name) (before after : Outlet) (count : ℕ) : Type 0 where
  pub text : List ℕ
  pub appended : HasAppended before after text
  pub are_texts : (t : TableIn e.core) → AreAllTexts e count names text t

-- two parts that together are the texts of first answers
pub record ArePartsOfAnswers (e : Evaluated) (front rest : List ℕ) : Type 0 where
  pub are_texts : (t : TableIn e.core) → AreFirstTexts e (front ++ rest) t

-- ---- what waits

-- these are the texts of the first so many of the root boxes of these names
abbrev pub AreFirstWaits : CoreValue → List Name → ℕ → List ℕ → Type 0
AreFirstWaits c names n text = (t : TableIn c) (others : List Found) → AreRoots c t others → map (λ f. f.content.name) others ≡ names → AreWaits c.table.program 0 (take n others) text

-- the texts of all were written, where it is said what waits, and else nothing was
pub data HasWrittenWaits (c : CoreValue) (names : List Name) (before after : Outlet) : Bool → Type 0 where
  wrote_nothing : after ≡ before → HasWrittenWaits c names before after false
  wrote_waits : (text : List ℕ) → HasAppended before after text → AreFirstWaits c names (length names) text → HasWrittenWaits c names before after true

-- it is said what waits, and two parts together are the texts of the first of the boxes
pub record ArePartsOfWaits (c : CoreValue) (names : List Name) (says : Bool) (front rest : List ℕ) : Type 0 where
  pub is_said : says ≡ true
  pub count : ℕ
  pub are_waits : AreFirstWaits c names count (front ++ rest)

-- ---- the whole

-- the run that has ended
abbrev pub run_in : Evaluated → Config → List Content → Outcome → Run
run_in e last answers outcome = record { program = e.core.table.program; journal = e.core.journal; last = last; answers = answers; models = e.models.items; outcome = outcome }

-- it is the run of its query
pub record HasRun (e : Evaluated) (r : Run) : Type 0 where
  pub program : r.program ≡ e.core.table.program
  pub journal : r.journal ≡ e.core.journal
  pub models : r.models ≡ e.models.items
  pub is_run : IsRun e.core.table.query e.core.budget e.flags.model r

-- the text of a run was written whole, and this is the status of its outcome
pub record HasWritten (e : Evaluated) (before after : Outlet) (status : Status) : Type 0 where
  pub run : Run
  pub has_run : HasRun e run
  pub is_status : IsStatusOf status run.outcome
  pub text : List ℕ
  pub is_text : IsRunText e.flags run text
  pub appended : HasAppended before after text

-- a front of it was written
pub record BreaksOff (e : Evaluated) (before after : Outlet) (cause : Unwritten) : Type 0 where
  pub run : Run
  pub has_run : HasRun e run
  pub front : List ℕ
  pub is_front : IsRunFront e.flags run front
  pub appended : HasAppended before after front
  pub is_cause : IsCause before after cause
