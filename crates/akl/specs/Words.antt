-- The words of a command line.
use Rattle.std.specs.Prelude.{ℕ, Bool, false, List, [], ◌∷◌, drop, String, bytes_eq, codes}
use Rattle.std.specs.List.{before_first}
use Rattle.akl_args.specs.Table.{is_equals}
use Rattle.akl_run.specs.Words.{bytes_of}

-- the bytes of the words behind the first, which is the program's name
abbrev pub words_behind : {A : Type 0} → List (String A) → List (List ℕ)
words_behind given = bytes_of (drop 1 given)

-- the first word is `--batch`, or has a value behind it
abbrev pub is_batch : List (List ℕ) → Bool
is_batch [] = false
is_batch (word ∷ words) = bytes_eq (before_first is_equals word) (codes "--batch")
