-- Which token begins a text that goes on at a place, after the token `before` of the same clause.
use Rattle.std.specs.Prelude.{◌≡◌, ◌≢◌, ℕ, ◌≤◌, Bool, true, false, not, ◌||◌, ◌&&◌, ◌==◌, IsTrue, List, [], ◌∷◌, ◌++◌, length, Option, Some, None, ⊤}
use Rattle.akl_text.specs.Bytes.{is_blank}
use Rattle.akl_text.specs.Kinds.{ends_operand, is_symbol}
use Rattle.akl_text.specs.Layout.{IsLayout}
use Rattle.akl_text.specs.Spelling.{Spells}
use Rattle.akl_text.specs.declared.token.Kind.{Kind}
use Rattle.akl_text.specs.declared.token.Kind.TheVariants.{Integer, Quoted, OpenCall, Open, End}
use Rattle.akl_text.specs.declared.token.Token.{Token}

-- whether a `-` may be a sign, by the token before it in the same clause
abbrev pub allows_sign : Option Token → Bool
allows_sign None = true
allows_sign (Some before) = not (ends_operand before.kind)

-- whether a `(` at this place opens a call: directly after a name or a quoted token
abbrev pub opens_call : Option Token → ℕ → Bool
opens_call None at = false
opens_call (Some before) at = is_symbol before.kind && before.end == at

-- whether this byte begins the text
abbrev pub begins_with : ℕ → List ℕ → Bool
begins_with b [] = false
begins_with b (c ∷ t) = c == b

-- whether a full stop ends a clause, by what follows it: a blank, a `%` or the end of the text
abbrev pub ends_clause : List ℕ → Bool
ends_clause [] = true
ends_clause (b ∷ t) = is_blank b || b == 37

-- What a token of a kind, spelled w, needs of the token before it in the same clause, of its place, and of the
-- rest of the text: a negative integer needs a place for a sign, and quoted text goes on after a doubled quote.
abbrev pub Fits : Option Token → ℕ → Kind → List ℕ → List ℕ → Type 0
Fits before at Integer w rest = IsTrue (begins_with 45 w) → IsTrue (allows_sign before)
Fits before at Quoted w rest = begins_with 39 rest ≡ false
Fits before at OpenCall w rest = IsTrue (opens_call before at)
Fits before at Open w rest = opens_call before at ≡ false
Fits before at End w rest = IsTrue (ends_clause rest)
Fits before at _ w rest = ⊤

-- a token that begins the text `w ++ rest`
pub record BeginsText (before : Option Token) (at : ℕ) (kind : Kind) (w rest : List ℕ) : Type 0 where
  pub spelled : Spells kind w
  pub fits : Fits before at kind w rest

-- the longest token that begins the text
pub record IsLongest (before : Option Token) (at : ℕ) (kind : Kind) (w rest : List ℕ) : Type 0 where
  pub begins : BeginsText before at kind w rest
  pub longest : (other : Kind) (v more : List ℕ) → BeginsText before at other v more → w ++ rest ≡ v ++ more → length v ≤ length w

-- neither a token nor layout begins the text
pub record NothingBegins (before : Option Token) (at : ℕ) (text : List ℕ) : Type 0 where
  pub goes_on : text ≢ []
  pub no_layout : (w rest : List ℕ) → text ≡ w ++ rest → IsLayout w rest → ⊥
  pub no_token : (kind : Kind) (w rest : List ℕ) → text ≡ w ++ rest → BeginsText before at kind w rest → ⊥
