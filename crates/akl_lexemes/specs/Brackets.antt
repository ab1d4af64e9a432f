-- Where the brackets close, and how that is kept.
use Rattle.std.specs.Prelude.{◌≡◌, ℕ, zero, suc, ◌-◌, List, [], ◌∷◌, length, slice_index}
use Rattle.akl_text.specs.declared.token.Kind.{Kind}
use Rattle.akl_text.specs.declared.token.Kind.TheVariants as kinds
use Rattle.akl_lexemes.specs.declared.lexeme.Lexeme.{Lexeme}
use Rattle.akl_lexemes.specs.declared.brackets.Turn.{Turn}
use Rattle.akl_lexemes.specs.declared.brackets.Turn.TheVariants.{Opens, Closes, Stays}

abbrev pub kind_turn : Kind → Turn
kind_turn kinds.OpenCall = Opens
kind_turn kinds.Open = Opens
kind_turn kinds.OpenList = Opens
kind_turn kinds.Close = Closes
kind_turn kinds.CloseList = Closes
kind_turn _ = Stays

abbrev pub turn : Lexeme → Turn
turn (Lexeme.Mark m) = kind_turn m
turn _ = Stays

abbrev pub behind_turn : Turn → ℕ → List Lexeme → (ℕ → List Lexeme) → List Lexeme
behind_turn Opens n a go = go (suc n)
behind_turn Closes zero a go = a
behind_turn Closes (suc n) a go = go n
behind_turn Stays n a go = go n

-- behind the bracket that closes the brackets around n more that are open
abbrev pub behind_close : ℕ → List Lexeme → List Lexeme
behind_close n [] = []
behind_close n (o ∷ a) = behind_turn (turn o) n a (λ k. behind_close k a)

-- For lexemes, and for what stands behind each of them: by their number, how many stand behind the bracket that closes
-- the one before them.
abbrev pub IsTable : List ℕ → List Lexeme → Type 0
IsTable table [] = slice_index table 0 ≡ 0
IsTable table (o ∷ a) = (slice_index table (suc (length a)) ≡ length (behind_close 0 (o ∷ a))) × IsTable table a

-- the next entry, for one more lexeme in front
abbrev pub next_entry : Turn → List ℕ → ℕ
next_entry Opens table = slice_index table (slice_index table (length table - 1))
next_entry Closes table = length table - 1
next_entry Stays table = slice_index table (length table - 1)
