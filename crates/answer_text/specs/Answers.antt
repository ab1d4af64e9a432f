-- The text of an answer, for whatever equations its terms are represented.
use Rattle.std.specs.Prelude.{ℕ, ◌<◌, List, [], length, map}
use Rattle.akl_terms.specs.declared.program.ShownTerm.{ShownTerm}
use Rattle.akl_terms.specs.Tree.{Tree}
use Rattle.akl_terms.specs.Equal.{Equations}
use Rattle.akl_terms.specs.Template.{Template, tree}
use Rattle.answer_text.specs.Printed.{PrintsLines}
use Rattle.answer_text.specs.Classes.{Represents}

-- the most bytes of an answer's text
abbrev pub longest_answer : ℕ
longest_answer = 1000000

-- each text of these lines is longer; where a tree has no end there is none
abbrev pub AreTooLong : List (List ℕ) → Equations → List (List ℕ × Tree) → Type 0
AreTooLong symbols E lines = (text : List ℕ) → PrintsLines symbols E [] lines text → longest_answer < length text

-- the shown terms as trees, with their names
abbrev pub shown_trees : Template → List ShownTerm → List (List ℕ × Tree)
shown_trees t shown = map (λ s. (s.name, tree t.nodes s.term)) shown

-- the text is that of the shown terms under all equations whose classes go represents
abbrev pub IsAnswerText : Template → (Tree → Tree) → List ShownTerm → List ℕ → Type 0
IsAnswerText t go shown text = (E : Equations) → Represents E go → PrintsLines t.symbols E [] (shown_trees t shown) text

-- under all these equations the lines of the shown terms are too long
abbrev pub IsTooLong : Template → (Tree → Tree) → List ShownTerm → Type 0
IsTooLong t go shown = (E : Equations) → Represents E go → AreTooLong t.symbols E (shown_trees t shown)
