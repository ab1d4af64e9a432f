-- The texts of answers.
use Rattle.std.specs.Prelude.{ℕ, ◌≤◌, List, length, map, codes}
use Rattle.akl_terms.specs.Tree.{Tree}
use Rattle.akl_model.specs.Config.{Content, ShownTree}
use Rattle.answer_text.specs.Answers.{longest_answer}
use Rattle.answer_text.specs.AnswerLines.{AreAnswerLines}
use Rattle.answer_lines.specs.Lines.{AreLongLines}

-- what an answer shows, by names
abbrev pub shown_lines : List ShownTree → List (List ℕ × Tree)
shown_lines shown = map (λ s. (s.text, s.tree)) shown

-- what stands in the place of lines that are too long
abbrev pub long_line : List ℕ
long_line = codes "(longer than 1000000 bytes)\n"

-- the text of an answer: the lines of what it shows under its box's equations, where they have at most a million bytes, else one line that says so
pub data IsTextOf (symbols : List (List ℕ)) (b : Content) : List ℕ → Type 0 where
  fits : {text : List ℕ} → AreAnswerLines symbols b.equations (shown_lines b.shown) text → length text ≤ longest_answer → IsTextOf symbols b text
  is_long : AreLongLines symbols b.equations (shown_lines b.shown) → IsTextOf symbols b long_line
