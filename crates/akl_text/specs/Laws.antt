-- No text has two readings.
use Rattle.std.specs.Prelude.{◌≡◌, ℕ, List, Option}
use Rattle.akl_text.specs.Spelling.{Denotes}
use Rattle.akl_text.specs.Tokens.{Outcome, Reads}
use Rattle.akl_text.specs.declared.token.Kind.{Kind}
use Rattle.akl_text.specs.declared.token.Token.{Token}

-- a text has one reading as tokens
abbrev pub OneReadingLaw : Type 0
OneReadingLaw = (before : Option Token) (at : ℕ) (text : List ℕ) (one another : Outcome) → Reads before at text one → Reads before at text another → one ≡ another

-- a spelling stands for one text
abbrev pub OneTextLaw : Type 0
OneTextLaw = (kind : Kind) (w one another : List ℕ) → Denotes kind w one → Denotes kind w another → one ≡ another
