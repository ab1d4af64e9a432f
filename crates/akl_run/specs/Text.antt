-- The text of a run.
use Rattle.std.specs.Prelude.{◌≡◌, ◌<◌, ℕ, suc, Bool, true, false, List, [], ◌∷◌, ◌++◌, length, Option, Some, None, slice_get, codes}
use Rattle.std.specs.Fmt.{decimal}
use Rattle.akl_terms.specs.declared.program.Program.{Program}
use Rattle.akl_model.specs.Config.{Content, Boxes, no_boxes, box, Goals, Found}
use Rattle.akl_model.specs.Derivations.{IsAnswer, Outcome, done, failed, suspended, out_of_budget}
use Rattle.tree_models.specs.declared.model.TreeModel.{TreeModel}
use Rattle.tree_models.specs.Texts.{IsModelText}
use Rattle.root_answers.specs.Text.{IsTextOf}
use Rattle.root_answers.specs.Models.{names_shown}
use Rattle.root_answers.specs.Roots.{root_box}
use Rattle.why_report.specs.Texts.{IsWaitingText}
use Rattle.akl_args.specs.declared.flag.Flags.{Flags}
use Rattle.akl_run.specs.Runs.{Run}
use Rattle.akl_run.specs.Traces.{trace_text}

-- ---- the answers

-- the lines of an answer, with those of its model behind them where it has one
pub data IsShown (symbols : List (List ℕ)) (b : Content) : Option TreeModel → List ℕ → Type 0 where
  alone : {text : List ℕ} → IsTextOf symbols b text → IsShown symbols b None text
  with_model : {m : TreeModel} {text lines : List ℕ} → IsTextOf symbols b text → IsModelText symbols (names_shown b) m lines → IsShown symbols b (Some m) (text ++ lines)

-- the line of an answer's number, and its lines
abbrev pub numbered : ℕ → List ℕ → List ℕ
numbered k lines = codes "answer " ++ decimal k ++ 10 ∷ lines

-- the texts of answers in order, behind so many others: they are numbered from 1 on, and each has the model in its place
pub data AreTexts (symbols : List (List ℕ)) (models : List TreeModel) : ℕ → List Content → List ℕ → Type 0 where
  no_answers : {n : ℕ} → AreTexts symbols models n [] []
  an_answer : {n : ℕ} {b : Content} {bs : List Content} {text rest : List ℕ} → IsShown symbols b (slice_get models n) text → AreTexts symbols models (suc n) bs rest
      → AreTexts symbols models n (b ∷ bs) (numbered (suc n) text ++ rest)

-- ---- what waits

-- the other root boxes, in order: those that are no answers
pub data AreOthers : Boxes → List Found → Type 0 where
  no_others : AreOthers no_boxes []
  answered : {b : Content} {gs : Goals} {bs : Boxes} {others : List Found} → IsAnswer b gs → AreOthers bs others → AreOthers (box b gs bs) others
  another : {b : Content} {gs : Goals} {bs : Boxes} {others : List Found} → (IsAnswer b gs → ⊥) → AreOthers bs others → AreOthers (box b gs bs) (root_box b gs ∷ others)

-- the texts of boxes that wait in order, behind so many others: they are numbered from 1 on
pub data AreWaits (p : Program) : ℕ → List Found → List ℕ → Type 0 where
  none_waits : {n : ℕ} → AreWaits p n [] []
  one_waits : {n : ℕ} {f : Found} {fs : List Found} {text rest : List ℕ} → IsWaitingText p f (suc n) text → AreWaits p (suc n) fs rest → AreWaits p n (f ∷ fs) (text ++ rest)

-- it is said what waits, where this is asked, of a run that is suspended
abbrev pub says_waits : Flags → Outcome → Bool
says_waits flags (suspended k) = flags.why
says_waits flags o = false

-- the texts of the other root boxes, where it is said what waits, and else nothing
pub data IsWaitsText (r : Run) : Bool → List ℕ → Type 0 where
  unsaid : IsWaitsText r false []
  said : {others : List Found} {text : List ℕ} → AreOthers r.last.roots others → AreWaits r.program 0 others text → IsWaitsText r true text

-- ---- the whole

-- the last line
abbrev pub outcome_line : Outcome → List ℕ
outcome_line done = codes "done\n"
outcome_line failed = codes "failed\n"
outcome_line (suspended k) = codes "suspended " ++ decimal k ++ 10 ∷ []
outcome_line out_of_budget = codes "budget\n"

-- the texts of answers of a run
abbrev pub AreTextsIn : Run → List Content → List ℕ → Type 0
AreTextsIn r answers text = AreTexts r.program.templates.symbols r.models 0 answers text

-- the text of a run: its trace where one is asked, its answers, what waits, and the last line
pub record IsRunText (flags : Flags) (r : Run) (text : List ℕ) : Type 0 where
  pub answered : List ℕ
  pub are_answers : AreTextsIn r r.answers answered
  pub waiting : List ℕ
  pub are_waits : IsWaitsText r (says_waits flags r.outcome) waiting
  pub whole : text ≡ trace_text flags.trace r.journal ++ answered ++ waiting ++ outcome_line r.outcome

-- as far as it was made before its last line: the trace with the texts of the first answers, or with those of all answers and of the first boxes that wait
pub data IsBegun (flags : Flags) (r : Run) : List ℕ → Type 0 where
  in_answers : (first left : List Content) {answered : List ℕ} → r.answers ≡ first ++ left → AreTextsIn r first answered → IsBegun flags r (trace_text flags.trace r.journal ++ answered)
  in_waits : {answered waiting : List ℕ} (first left : List Found) → AreTextsIn r r.answers answered → says_waits flags r.outcome ≡ true → AreOthers r.last.roots (first ++ left) → AreWaits r.program 0 first waiting
      → IsBegun flags r (trace_text flags.trace r.journal ++ answered ++ waiting)

-- a front of it, as far as it was made, and not the whole
pub data IsRunFront (flags : Flags) (r : Run) (front : List ℕ) : Type 0 where
  of_begun : {made : List ℕ} (rest : List ℕ) → IsBegun flags r made → front ++ rest ≡ made → IsRunFront flags r front
  of_whole : {text : List ℕ} (rest : List ℕ) → IsRunText flags r text → front ++ rest ≡ text → 0 < length rest → IsRunFront flags r front
