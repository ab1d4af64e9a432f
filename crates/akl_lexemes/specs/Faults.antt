-- Why tokens are refused, of which the clauses speak.
use Rattle.std.specs.Prelude.{◌≡◌, ℕ, List, Some, None, true, ⊤}
use Rattle.akl_text.specs.declared.token.Token.{Token}
use Rattle.akl_lexemes.specs.declared.error.SyntaxError.{SyntaxError}
use Rattle.akl_lexemes.specs.declared.error.SyntaxError.TheVariants.{TooDeep, IntRange, Memory}
use Rattle.akl_lexemes.specs.Limits.{is_out_of_range, first_too_deep, first_out_of_range}

-- the token is an integer out of range, and the error is at its place
abbrev pub IsRangeFault : List ℕ → Token → SyntaxError → Type 0
IsRangeFault bytes t (IntRange at) = (is_out_of_range bytes t ≡ true) × (at ≡ t.start)
IsRangeFault bytes t (Memory e) = ⊤
IsRangeFault bytes t _ = ⊥

-- the error is at the place of the first integer that is out of range
abbrev pub IsFirstRangeFault : List ℕ → List Token → SyntaxError → Type 0
IsFirstRangeFault bytes ts (IntRange at) = (t : Token) × (first_out_of_range bytes ts ≡ Some t) × (at ≡ t.start)
IsFirstRangeFault bytes ts (Memory e) = ⊤
IsFirstRangeFault bytes ts _ = ⊥

-- the error is at the place of the first bracket with which too many are open, or else of the first such integer
abbrev pub IsLimitFault : List ℕ → List Token → SyntaxError → Type 0
IsLimitFault bytes ts (TooDeep at) = (t : Token) × (first_too_deep ts ≡ Some t) × (at ≡ t.start)
IsLimitFault bytes ts (IntRange at) = (first_too_deep ts ≡ None) × IsFirstRangeFault bytes ts (IntRange at)
IsLimitFault bytes ts (Memory e) = ⊤
IsLimitFault bytes ts _ = ⊥
