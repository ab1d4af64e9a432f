-- What the command says of itself.
use Rattle.std.specs.Prelude.{ℕ, List, [], ◌∷◌, Option, Some, None, if◌then◌else◌, bytes_eq, codes}

-- the help's text for a lone `--help`, and the version's for a lone `--version`
abbrev pub notice_of : List ℕ → List ℕ → List (List ℕ) → Option (List ℕ)
notice_of help version [] = None
notice_of help version (word ∷ []) = if bytes_eq word (codes "--help") then Some help else if bytes_eq word (codes "--version") then Some version else None
notice_of help version (word ∷ more ∷ rest) = None
