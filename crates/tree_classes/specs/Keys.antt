-- What tells how nodes begin.
use Rattle.std.specs.Prelude.{ℕ, ℤ, pos, negsuc, ◌/◌, ◌%◌, ◌^◌, List, [], ◌∷◌}
use Rattle.akl_terms.specs.declared.term.Seen.{Seen}
use Rattle.akl_terms.specs.declared.term.Seen.TheVariants.{Free}

-- a sign, and a size of two words
abbrev pub size_key : ℕ → ℕ → List ℕ
size_key sign n = 1 ∷ sign ∷ n / 2 ^ 64 ∷ n % 2 ^ 64 ∷ []

abbrev pub integer_key : ℤ → List ℕ
integer_key (pos n) = size_key 0 n
integer_key (negsuc n) = size_key 1 n

-- a variable by itself, an integer and a port by their values, a symbol with its number of arguments
abbrev pub top_key : Seen → List ℕ
top_key (Free x) = 0 ∷ x.frame.worker ∷ x.frame.number ∷ x.index ∷ []
top_key (Seen.Int z) = integer_key z
top_key (Seen.Port p) = 2 ∷ p.worker ∷ p.number ∷ []
top_key (Seen.Struct s i n f) = 3 ∷ s ∷ n ∷ []
