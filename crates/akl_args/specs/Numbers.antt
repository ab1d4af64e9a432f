-- The numbers of options.
use Rattle.std.specs.Prelude.{List, ℕ, Bool, ◌&&◌, length, nat_lt, nat_le, Option, Some, None, option_and_then, if◌then◌else◌}
use Rattle.std.specs.Char.{is_ascii_digit}
use Rattle.std.specs.List.{list_all}
use Rattle.std.specs.Str.Parse.{digits_value}

-- a text of 1 to 10 ASCII digits
abbrev pub is_numeral : List ℕ → Bool
is_numeral text = nat_lt 0 (length text) && nat_le (length text) 10 && list_all is_ascii_digit text

-- the number that such a text writes in base ten
abbrev pub value_of : List ℕ → Option ℕ
value_of text = if is_numeral text then Some (digits_value 10 text) else None

abbrev pub within : ℕ → ℕ → ℕ → Option ℕ
within low high n = if nat_le low n && nat_le n high then Some n else None

-- the number that such a text writes, where it is from `low` to `high`
abbrev pub number_in : ℕ → ℕ → List ℕ → Option ℕ
number_in low high text = option_and_then (within low high) (value_of text)
