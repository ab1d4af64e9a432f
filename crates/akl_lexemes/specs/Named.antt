-- How a spelling gets the number of its variable.
use Rattle.std.specs.Prelude.{◌≡◌, ℕ, List, [], ◌∷◌, ◌++◌, length, Some, None}
use Rattle.akl_lexemes.specs.Lexemes.{number_of}

-- the variable of a spelling has this number: it had it before, or it is the next
pub data Numbers (old : List (List ℕ)) (name : List ℕ) : ℕ → List (List ℕ) → Type 0 where
  known : {n : ℕ} → number_of name old ≡ Some n → Numbers old name n old
  appended : number_of name old ≡ None → Numbers old name (length old) (old ++ name ∷ [])
