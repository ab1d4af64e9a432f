-- What is proved of the lines of an answer.
use Rattle.std.specs.Prelude.{◌≡◌, ℕ, List, [], Bool}
use Rattle.akl_terms.specs.Tree.{Tree}
use Rattle.akl_terms.specs.Equal.{Equations, IsTold, IsConsistent}
use Rattle.akl_terms.specs.Standing.{StandFor}
use Rattle.answer_text.specs.Printed.{PrintsLines}
use Rattle.answer_text.specs.Answers.{AreTooLong}
use Rattle.answer_text.specs.AnswerLines.{AreAnswerLines}
use Rattle.answer_text.specs.Classes.{Represents}
use Rattle.answer_text.specs.BuiltGraph.{IsWorkedOut, AreBuilt}
use Rattle.answer_text.specs.Graph.{Graph, IsDecided, AreThere}

-- consistent equations have at most one text of an answer
abbrev pub OneTextLaw : Type 0
OneTextLaw = (symbols : List (List ℕ)) (E : Equations) (shown : List (List ℕ × Tree)) (text other : List ℕ) → IsConsistent E
    → AreAnswerLines symbols E shown text → AreAnswerLines symbols E shown other → text ≡ other

-- equations that stand for others give the lines that these give
abbrev pub LinesStandLaw : Type 0
LinesStandLaw = (symbols : List (List ℕ)) (E F : Equations) → StandFor (IsTold E) (IsTold F) → IsConsistent E → (shown : List (List ℕ × Tree)) (text : List ℕ)
    → AreAnswerLines symbols E shown text → AreAnswerLines symbols F shown text

-- where every tree can be written out, the lines with all trees written out are the text
abbrev pub WrittenOutLaw : Type 0
WrittenOutLaw = (symbols : List (List ℕ)) (E : Equations) (shown : List (List ℕ × Tree)) (text : List ℕ) → IsConsistent E
    → PrintsLines symbols E [] shown text → AreAnswerLines symbols E shown text

-- shown terms that stand in a decided graph have a text, however long
abbrev pub TextLaw : Type 0
TextLaw = (symbols : List (List ℕ)) (E : Equations) (g : Graph) (block rank : ℕ → ℕ) (cyclic : ℕ → Bool) (shown : List (List ℕ × Tree)) → IsConsistent E
    → IsDecided symbols E g block rank cyclic → AreThere E g shown → (text : List ℕ) × AreAnswerLines symbols E shown text

-- shown terms of a graph that is worked out have a text under all equations whose classes go represents
abbrev pub RepresentedTextLaw : Type 0
RepresentedTextLaw = (symbols : List (List ℕ)) (go : Tree → Tree) (g : Graph) (tops blocks : List ℕ) (rank : ℕ → ℕ) (marked : ℕ → Bool) (shown : List (List ℕ × Tree))
    → IsWorkedOut symbols go g tops blocks rank marked → AreBuilt go g shown → (E : Equations) → Represents E go → (text : List ℕ) × AreAnswerLines symbols E shown text

-- equations that stand for others give the texts that these give
abbrev pub TextsStandLaw : Type 0
TextsStandLaw = (symbols : List (List ℕ)) (E F : Equations) → StandFor (IsTold E) (IsTold F) → IsConsistent E → (lines : List (List ℕ × Tree)) (text : List ℕ)
    → PrintsLines symbols E [] lines text → PrintsLines symbols F [] lines text

-- where their texts are too long, so are those of the equations that stand for them
abbrev pub LongTextsStandLaw : Type 0
LongTextsStandLaw = (symbols : List (List ℕ)) (E F : Equations) → StandFor (IsTold E) (IsTold F) → IsConsistent E → (lines : List (List ℕ × Tree))
    → AreTooLong symbols E lines → AreTooLong symbols F lines
