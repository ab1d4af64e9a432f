-- The text of a batch.
use Rattle.std.specs.Prelude.{ℕ, suc, List, [], ◌∷◌, ◌++◌, length, codes}
use Rattle.std.specs.Fmt.{decimal}

-- a reply's text behind a line with its number
abbrev pub numbered : ℕ → List ℕ → List ℕ
numbered number text = (codes "query " ++ decimal number ++ codes "\n") ++ text

-- the texts of replies that are numbered from here on
abbrev pub texts_from : ℕ → List (List ℕ) → List ℕ
texts_from number [] = []
texts_from number (text ∷ texts) = numbered number text ++ texts_from (suc number) texts

-- the last line: how many replies there are
abbrev pub last_line : ℕ → List ℕ
last_line count = codes "queries " ++ decimal count ++ codes "\n"

abbrev pub batch_text : List (List ℕ) → List ℕ
batch_text texts = texts_from 1 texts ++ last_line (length texts)
