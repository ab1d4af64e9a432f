-- The limits of a clause or query: the brackets open at one place, and the size of an integer.
use Rattle.std.specs.Prelude.{ℕ, suc, ◌+◌, List, [], ◌∷◌, ◌++◌, Option, Some, None, Bool, true, false, not, ◌&&◌, nat_lt, if◌then◌else◌}
use Rattle.akl_text.specs.declared.token.Kind.{Kind}
use Rattle.akl_text.specs.declared.token.Kind.TheVariants as kinds
use Rattle.akl_text.specs.declared.token.Token.{Token}
use Rattle.akl_text.specs.Spelling.{spelling, integer_value}
use Rattle.akl_terms.specs.Arithmetic.{in_range}

abbrev pub opens : Kind → Bool
opens kinds.Open = true
opens kinds.OpenCall = true
opens kinds.OpenList = true
opens _ = false

abbrev pub closes : Kind → Bool
closes kinds.Close = true
closes kinds.CloseList = true
closes _ = false

abbrev pub is_integer : Kind → Bool
is_integer kinds.Integer = true
is_integer _ = false

-- how many of the tokens are of such a kind
abbrev pub how_many : (Kind → Bool) → List Token → ℕ
how_many p [] = 0
how_many p (t ∷ ts) = if p t.kind then suc (how_many p ts) else how_many p ts

-- More than 200 brackets are open at a token, behind those before it: up to and with it so many more open than
-- close before it.
abbrev pub is_too_deep : List Token → Token → Bool
is_too_deep before t = nat_lt (how_many closes before + 200) (how_many opens (before ++ t ∷ []))

-- the token is an integer, and out of range
abbrev pub is_out_of_range : List ℕ → Token → Bool
is_out_of_range bytes t = is_integer t.kind && not (in_range (integer_value (spelling bytes t)))

-- the first token at which too many brackets are open, behind those that were passed
abbrev pub too_deep_behind : List Token → List Token → Option Token
too_deep_behind passed [] = None
too_deep_behind passed (t ∷ ts) = if is_too_deep passed t then Some t else too_deep_behind (passed ++ t ∷ []) ts

abbrev pub first_too_deep : List Token → Option Token
first_too_deep ts = too_deep_behind [] ts

abbrev pub first_out_of_range : List ℕ → List Token → Option Token
first_out_of_range bytes [] = None
first_out_of_range bytes (t ∷ ts) = if is_out_of_range bytes t then Some t else first_out_of_range bytes ts
