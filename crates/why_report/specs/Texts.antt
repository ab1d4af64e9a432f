-- What a root box waits on, as text.
use Rattle.std.specs.Prelude.{◌≡◌, ℕ, List, [], ◌∷◌, ◌++◌, codes}
use Rattle.std.specs.Fmt.{decimal}
use Rattle.akl_terms.specs.declared.name.Var.{Var}
use Rattle.akl_terms.specs.declared.program.Program.{Program}
use Rattle.akl_terms.specs.Tree.{Tree, variable}
use Rattle.akl_terms.specs.Equal.{Equations, Equal}
use Rattle.akl_model.specs.Config.{ShownTree, Found, whole}
use Rattle.line_text.specs.Names.{name_text}
use Rattle.why_laws.specs.Waiting.{Waiting, AreWaiting}

-- a variable's frame and its index
abbrev pub variable_text : Var → List ℕ
variable_text x = name_text x.frame ++ codes ":" ++ decimal x.index

-- a variable is written as the first shown term is named that is the same, else as its frame and its index
pub data IsNameOf (IsSame : Tree → Type 0) (x : Var) : List ShownTree → List ℕ → Type 0 where
  named : {s : ShownTree} {ss : List ShownTree} → IsSame s.tree → IsNameOf IsSame x (s ∷ ss) s.text
  named_later : {s : ShownTree} {ss : List ShownTree} {text : List ℕ} → (IsSame s.tree → ⊥) → IsNameOf IsSame x ss text → IsNameOf IsSame x (s ∷ ss) text
  unnamed : IsNameOf IsSame x [] (variable_text x)

-- by equations
abbrev pub IsVariableText : Equations → List ShownTree → Var → List ℕ → Type 0
IsVariableText E shown x text = IsNameOf (λ t. Equal E t (variable x)) x shown text

-- texts of what a list has, one behind another
pub data AreTexts {A : Type 0} (IsText : A → List ℕ → Type 0) : List A → List ℕ → Type 0 where
  no_texts : AreTexts IsText [] []
  one_more : {x : A} {xs : List A} {text rest : List ℕ} → IsText x text → AreTexts IsText xs rest → AreTexts IsText (x ∷ xs) (text ++ rest)

-- the variables on which a goal waits, by how each is written: with `, ` between, or `nothing`
abbrev pub IsFurtherText : (Var → List ℕ → Type 0) → Var → List ℕ → Type 0
IsFurtherText IsWritten x piece = (text : List ℕ) × IsWritten x text × (piece ≡ codes ", " ++ text)

pub data IsOnText (IsWritten : Var → List ℕ → Type 0) : List Var → List ℕ → Type 0 where
  on_nothing : IsOnText IsWritten [] (codes "nothing")
  on_variables : {x : Var} {xs : List Var} {text rest : List ℕ} → IsWritten x text → AreTexts (IsFurtherText IsWritten) xs rest → IsOnText IsWritten (x ∷ xs) (text ++ rest)

-- the line of a goal
abbrev pub IsGoalLine : (Var → List ℕ → Type 0) → Waiting → List ℕ → Type 0
IsGoalLine IsWritten w line = (on : List ℕ) × IsOnText IsWritten w.on on × (line ≡ codes "goal " ++ name_text w.goal ++ codes " on " ++ on ++ codes "\n")

-- the lines of a root box with this number
abbrev pub AreWaitingLines : (Var → List ℕ → Type 0) → ℕ → List Waiting → List ℕ → Type 0
AreWaitingLines IsWritten number ws text = (goals : List ℕ) × AreTexts (IsGoalLine IsWritten) ws goals × (text ≡ codes "waiting " ++ decimal number ++ codes "\n" ++ goals)

-- a root box waits so, as text: each of its variables is written by its equations and what it shows
pub record IsWaitingText (p : Program) (f : Found) (number : ℕ) (text : List ℕ) : Type 0 where
  pub waiting : List Waiting
  pub waits : AreWaiting p f waiting
  pub lines : AreWaitingLines (IsVariableText (whole f) f.content.shown) number waiting text
