-- The text of an answer under the equations for which a chain's stores stand.
use Rattle.std.specs.Prelude.{ℕ, List}
use Rattle.akl_terms.specs.declared.program.ShownTerm.{ShownTerm}
use Rattle.akl_terms.specs.Equal.{Equations, IsTold}
use Rattle.akl_terms.specs.Standing.{StandFor}
use Rattle.akl_terms.specs.Template.{Template}
use Rattle.local_store.specs.Chained.{Chained, ToldBy}
use Rattle.answer_text.specs.Answers.{shown_trees}
use Rattle.answer_text.specs.AnswerLines.{AreAnswerLines}
use Rattle.answer_lines.specs.Lines.{AreLongLines}

abbrev pub template_of : Chained → Template
template_of c = record { nodes = c.nodes; symbols = c.symbols }

-- the text is that of the shown terms under all equations for which the stores stand
abbrev pub IsChainText : Chained → List ShownTerm → List ℕ → Type 0
IsChainText c shown text = (E : Equations) → StandFor (ToldBy c.nodes c.stores) (IsTold E) → AreAnswerLines c.symbols E (shown_trees (template_of c) shown) text

-- under all these equations the lines of the shown terms are too long
abbrev pub IsTooLongText : Chained → List ShownTerm → Type 0
IsTooLongText c shown = (E : Equations) → StandFor (ToldBy c.nodes c.stores) (IsTold E) → AreLongLines c.symbols E (shown_trees (template_of c) shown)
