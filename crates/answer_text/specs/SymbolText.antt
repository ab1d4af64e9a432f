-- How a symbol is written.
use Rattle.std.specs.Prelude.{ℕ, ◌==◌, List, [], ◌∷◌, ◌++◌, if◌then◌else◌, bytes_eq, codes}
use Rattle.std.specs.List.{flat_map}
use Rattle.akl_terms.specs.Words.{is_plain_name}

-- a character inside quotes
abbrev pub escaped : ℕ → List ℕ
escaped b = if b == 39 then codes "\\'" else (if b == 92 then codes "\\\\" else (if b == 10 then codes "\\n" else (if b == 9 then codes "\\t" else b ∷ [])))

-- a name is written as it stands, any other symbol in quotes
abbrev pub symbol_text : List ℕ → List ℕ
symbol_text bs = if is_plain_name bs then bs else 39 ∷ flat_map escaped bs ++ 39 ∷ []

-- the empty list is written as it stands too, where it has no arguments
abbrev pub constant_text : List ℕ → List ℕ
constant_text bs = if bytes_eq bs (codes "[]") then bs else symbol_text bs
