-- What tokens stand for.
use Rattle.std.specs.Prelude.{◌≡◌, ℕ, suc, List, [], ◌∷◌, ◌++◌, length, Option, Some, None, Bool, true, false, IsTrue, if◌then◌else◌, option_map, codes, bytes_eq}
use Rattle.akl_text.specs.declared.token.Kind.{Kind}
use Rattle.akl_text.specs.declared.token.Kind.TheVariants as kinds
use Rattle.akl_text.specs.declared.token.Token.{Token}
use Rattle.akl_text.specs.Kinds.{is_symbol}
use Rattle.akl_text.specs.Spelling.{spelling, integer_value, Denotes}
use Rattle.akl_lexemes.specs.declared.lexeme.Lexeme.{Lexeme}
use Rattle.akl_lexemes.specs.declared.lexeme.Lexeme.TheVariants.{Symbol, Variable, Integer, Mark}

-- the kinds of token that stand for nothing but themselves
abbrev pub is_mark : Kind → Bool
is_mark kinds.Name = false
is_mark kinds.Quoted = false
is_mark kinds.Variable = false
is_mark kinds.Integer = false
is_mark _ = true

-- the place of a name in a list of names
abbrev pub place_of : List ℕ → List (List ℕ) → Option ℕ
place_of name [] = None
place_of name (n ∷ names) = if bytes_eq n name then Some 0 else option_map suc (place_of name names)

-- the number of the variable that a spelling names, after variables of these names: `_` names none of them
abbrev pub number_of : List ℕ → List (List ℕ) → Option ℕ
number_of name names = if bytes_eq name (codes "_") then None else place_of name names

-- What a token of these bytes stands for, behind variables of some names, and the names with it: variables are
-- numbered by first occurrence.
pub data IsLexeme (bytes : List ℕ) (names : List (List ℕ)) (t : Token) : Lexeme → List (List ℕ) → Type 0 where
  symbol : {text : List ℕ} → IsTrue (is_symbol t.kind) → Denotes t.kind (spelling bytes t) text → IsLexeme bytes names t (Symbol text) names
  known_variable : {n : ℕ} → t.kind ≡ kinds.Variable → number_of (spelling bytes t) names ≡ Some n → IsLexeme bytes names t (Variable n) names
  new_variable : t.kind ≡ kinds.Variable → number_of (spelling bytes t) names ≡ None → IsLexeme bytes names t (Variable (length names)) (names ++ spelling bytes t ∷ [])
  integer : t.kind ≡ kinds.Integer → IsLexeme bytes names t (Integer (integer_value (spelling bytes t))) names
  mark : IsTrue (is_mark t.kind) → IsLexeme bytes names t (Mark t.kind) names

-- the lexemes of tokens of these bytes, behind variables of some names, and the names of the variables of all
pub data Lexemes (bytes : List ℕ) : List (List ℕ) → List Token → List Lexeme → List (List ℕ) → Type 0 where
  nothing : {names : List (List ℕ)} → Lexemes bytes names [] [] names
  next : {names more all : List (List ℕ)} {t : Token} {ts : List Token} {l : Lexeme} {ls : List Lexeme}
      → IsLexeme bytes names t l more → Lexemes bytes more ts ls all → Lexemes bytes names (t ∷ ts) (l ∷ ls) all
