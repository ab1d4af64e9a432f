-- The lines of an answer, whatever equations its terms are represented under.
use Rattle.std.specs.Prelude.{ℕ, ◌<◌, List, [], ◌∷◌, length}
use Rattle.akl_terms.specs.declared.program.ShownTerm.{ShownTerm}
use Rattle.akl_terms.specs.Tree.{Tree}
use Rattle.akl_terms.specs.Equal.{Equations, Equal}
use Rattle.akl_terms.specs.Template.{Template}
use Rattle.answer_text.specs.Answers.{longest_answer, shown_trees}
use Rattle.answer_text.specs.AnswerLines.{AreAnswerLines}
use Rattle.answer_text.specs.Classes.{Represents}
use Rattle.answer_text.specs.Graph.{Stands}
use Rattle.answer_lines.specs.Printing.{Forest, forest_graph, IsDecidedForest}

-- each text of these lines is longer than an answer may be
abbrev pub AreLongLines : List (List ℕ) → Equations → List (List ℕ × Tree) → Type 0
AreLongLines symbols E shown = (text : List ℕ) → AreAnswerLines symbols E shown text → longest_answer < length text

-- the lines of the shown terms under all equations whose classes go represents
abbrev pub AreLinesOf : Template → (Tree → Tree) → List ShownTerm → List ℕ → Type 0
AreLinesOf t go shown text = (E : Equations) → Represents E go → AreAnswerLines t.symbols E (shown_trees t shown) text

-- under all these equations the lines are too long
abbrev pub HasLongLines : Template → (Tree → Tree) → List ShownTerm → Type 0
HasLongLines t go shown = (E : Equations) → Represents E go → AreLongLines t.symbols E (shown_trees t shown)

-- shown terms are equal to the terms of these nodes
abbrev pub AreAt : Forest → Equations → List (List ℕ × Tree) → List ℕ → Type 0
AreAt x E [] is = Unit {0}
AreAt x E ((name, t) ∷ shown) [] = ⊥
AreAt x E ((name, t) ∷ shown) (i ∷ is) = ((u : Tree) × Stands (forest_graph x) i u × Equal E t u) × AreAt x E shown is

-- the text is that of the lines under all equations under which the graph is decided and the shown terms stand at these nodes
abbrev pub AreForestLines : Forest → List (List ℕ × Tree) → List ℕ → List ℕ → Type 0
AreForestLines x shown nodes text = (E : Equations) → IsDecidedForest E x → AreAt x E shown nodes → AreAnswerLines x.template.symbols E shown text

abbrev pub AreLongForestLines : Forest → List (List ℕ × Tree) → List ℕ → Type 0
AreLongForestLines x shown nodes = (E : Equations) → IsDecidedForest E x → AreAt x E shown nodes → AreLongLines x.template.symbols E shown
