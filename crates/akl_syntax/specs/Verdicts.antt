-- What is said of a text: a clause, a program or a query, or why it is refused.
use Rattle.std.specs.Prelude.{◌≡◌, ℕ, ◌<◌, ◌≤◌, List, [], ◌∷◌, ◌++◌, length, Some, None}
use Rattle.akl_text.specs.declared.token.Kind.TheVariants as kinds
use Rattle.akl_text.specs.declared.token.Token.{Token}
use Rattle.akl_text.specs.Layout.{SkipsFrom}
use Rattle.akl_text.specs.Tokens.{tokens, nothing_at, ReadsFrom}
use Rattle.akl_lexemes.specs.declared.lexeme.Lexeme.{Lexeme}
use Rattle.akl_lexemes.specs.declared.error.SyntaxError.{SyntaxError}
use Rattle.akl_lexemes.specs.declared.error.SyntaxError.TheVariants.{Syntax, TooDeep, IntRange, TooLong}
use Rattle.akl_lexemes.specs.Limits.{first_too_deep, first_out_of_range}
use Rattle.akl_lexemes.specs.Lexemes.{Lexemes}
use Rattle.akl_syntax.specs.Clauses.{Clause, Query, IsClause, IsQuery}

pub data Verdict (A : Type 0) : Type 0 where
  accepted : A → Verdict A
  refused : SyntaxError → Verdict A

-- The tests of tokens that were read from a place, in their order: too many brackets are open, an integer is out of
-- range, nothing is derived. The first that finds its fault decides.
pub data Tests (bytes : List ℕ) (start : ℕ) {A : Type 0} (Derives : List (List ℕ) → List Lexeme → A → Type 0) (ts : List Token) : Verdict A → Type 0 where
  too_deep : {t : Token} → first_too_deep ts ≡ Some t → Tests bytes start Derives ts (refused (TooDeep t.start))
  out_of_range : {t : Token} → first_too_deep ts ≡ None → first_out_of_range bytes ts ≡ Some t → Tests bytes start Derives ts (refused (IntRange t.start))
  not_derived : {ls : List Lexeme} {names : List (List ℕ)} → first_too_deep ts ≡ None → first_out_of_range bytes ts ≡ None → Lexemes bytes [] ts ls names
      → ((x : A) → Derives names ls x → ⊥) → Tests bytes start Derives ts (refused (Syntax start))
  derived : {ls : List Lexeme} {names : List (List ℕ)} {x : A} → first_too_deep ts ≡ None → first_out_of_range bytes ts ≡ None → Lexemes bytes [] ts ls names
      → Derives names ls x → Tests bytes start Derives ts (accepted x)

-- no end token is the last of the tokens
abbrev pub NotEnded : List Token → Type 0
NotEnded ts = (before : List Token) (last : Token) → ts ≡ before ++ last ∷ [] → last.kind ≡ kinds.End → ⊥

-- what was accepted, with the place where it ends
abbrev pub ending_at : {A : Type 0} → ℕ → Verdict A → Verdict (A × ℕ)
ending_at at (accepted x) = accepted (x, at)
ending_at at (refused e) = refused e

-- What is said of the clause that begins at a place: before the four tests come that every byte before the first end
-- token begins a token, and that an end token follows.
pub data ReadsClause (bytes : List ℕ) (start : ℕ) : Verdict (Clause × ℕ) → Type 0 where
  no_token : {at : ℕ} → ReadsFrom bytes start (nothing_at at) → ReadsClause bytes start (refused (Syntax start))
  no_end : {ts : List Token} → ReadsFrom bytes start (tokens ts) → NotEnded ts → ReadsClause bytes start (refused (Syntax start))
  ended : {ts : List Token} (last : Token) {v : Verdict Clause} → ReadsFrom bytes start (tokens (ts ++ last ∷ [])) → last.kind ≡ kinds.End
      → Tests bytes start (IsClause start) ts v → ReadsClause bytes start (ending_at last.end v)

abbrev pub with_clause : Clause → Verdict (List Clause) → Verdict (List Clause)
with_clause c (accepted cs) = accepted (c ∷ cs)
with_clause c (refused e) = refused e

-- the clauses from a place on, up to layout that ends the text
pub data ReadsClauses (bytes : List ℕ) : ℕ → Verdict (List Clause) → Type 0 where
  ended : {from : ℕ} → SkipsFrom bytes from (length bytes) → ReadsClauses bytes from (accepted [])
  refuses : {from start : ℕ} {e : SyntaxError} → SkipsFrom bytes from start → start < length bytes → ReadsClause bytes start (refused e) → ReadsClauses bytes from (refused e)
  clause : {from start end : ℕ} {c : Clause} {v : Verdict (List Clause)} → SkipsFrom bytes from start → start < length bytes → ReadsClause bytes start (accepted (c, end))
      → ReadsClauses bytes end v → ReadsClauses bytes from (with_clause c v)

-- a program of at most 1,000,000 bytes
pub data ReadsProgram (bytes : List ℕ) : Verdict (List Clause) → Type 0 where
  too_long : 1000000 < length bytes → ReadsProgram bytes (refused (TooLong (length bytes)))
  clauses : {v : Verdict (List Clause)} → length bytes ≤ 1000000 → ReadsClauses bytes 0 v → ReadsProgram bytes v

-- What is said of a query, which an end token may end. Where one does, only layout may follow.
pub data ReadsQuery (bytes : List ℕ) : Verdict Query → Type 0 where
  no_token : {start at : ℕ} → SkipsFrom bytes 0 start → ReadsFrom bytes start (nothing_at at) → ReadsQuery bytes (refused (Syntax start))
  open_ended : {start : ℕ} {ts : List Token} {v : Verdict Query} → SkipsFrom bytes 0 start → ReadsFrom bytes start (tokens ts) → NotEnded ts
      → Tests bytes start IsQuery ts v → ReadsQuery bytes v
  ended : {start : ℕ} {ts : List Token} (last : Token) {v : Verdict Query} → SkipsFrom bytes 0 start → ReadsFrom bytes start (tokens (ts ++ last ∷ [])) → last.kind ≡ kinds.End
      → SkipsFrom bytes last.end (length bytes) → Tests bytes start IsQuery ts v → ReadsQuery bytes v
  goes_on : {start next : ℕ} {ts : List Token} (last : Token) {v : Verdict Query} → SkipsFrom bytes 0 start → ReadsFrom bytes start (tokens (ts ++ last ∷ [])) → last.kind ≡ kinds.End
      → SkipsFrom bytes last.end next → next < length bytes → Tests bytes start (λ names ls q. ⊥) ts v → ReadsQuery bytes v
