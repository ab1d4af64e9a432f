-- The texts that write a symbol as they stand.
use Rattle.std.specs.Prelude.{ℕ, Bool, false, ◌&&◌, ◌||◌, ◌==◌, not, nat_le, List, [], ◌∷◌, bytes_eq, codes}
use Rattle.std.specs.List.{list_all}

-- a letter from a to z
abbrev pub is_lower : ℕ → Bool
is_lower b = nat_le 97 b && nat_le b 122

-- a letter from A to Z, or `_`
abbrev pub is_upper : ℕ → Bool
is_upper b = (nat_le 65 b && nat_le b 90) || b == 95

abbrev pub is_digit : ℕ → Bool
is_digit b = nat_le 48 b && nat_le b 57

-- a letter, a digit or `_`
abbrev pub is_word : ℕ → Bool
is_word b = is_lower b || is_upper b || is_digit b

-- a letter from a to z, then letters, digits and `_`
abbrev pub is_lower_word : List ℕ → Bool
is_lower_word [] = false
is_lower_word (b ∷ bs) = is_lower b && list_all is_word bs

-- the words that are operators
abbrev pub is_operator_word : List ℕ → Bool
is_operator_word bs = bytes_eq bs (codes "is") || bytes_eq bs (codes "mod")

-- a text that writes a symbol without quotes
abbrev pub is_plain_name : List ℕ → Bool
is_plain_name bs = is_lower_word bs && not (is_operator_word bs)
