-- Why tokens are refused, of which the clauses of private functions speak.
use Rattle.std.specs.Prelude.{◌≡◌, ℕ, List, ⊤}
use Rattle.akl_text.specs.declared.token.Token.{Token}
use Rattle.akl_text.specs.Tokens.{tokens, nothing_at, ReadsFrom}
use Rattle.akl_lexemes.specs.declared.fault.Fault.{Fault}
use Rattle.akl_lexemes.specs.declared.fault.Fault.TheVariants as faults
use Rattle.akl_lexemes.specs.Memory.{IsMemory}
use Rattle.akl_lexemes.specs.declared.error.SyntaxError.{SyntaxError}
use Rattle.akl_lexemes.specs.declared.error.SyntaxError.TheVariants.{Syntax, Memory}

-- from a place on nothing begins at some byte before any end token, and the error is at that first place
abbrev pub IsTokenFault : List ℕ → ℕ → SyntaxError → Type 0
IsTokenFault bytes start (Syntax at) = (at ≡ start) × ((place : ℕ) × ReadsFrom bytes start (nothing_at place))
IsTokenFault bytes start (Memory e) = ⊤
IsTokenFault bytes start _ = ⊥

-- these tokens are read from a place on
abbrev pub ReadsTokens : List ℕ → ℕ → List Token → Type 0
ReadsTokens bytes start ts = ReadsFrom bytes start (tokens ts)

-- the error for a fault of the text that begins at a place
abbrev pub IsErrorOf : ℕ → Fault → SyntaxError → Type 0
IsErrorOf start faults.Syntax e = e ≡ Syntax start
IsErrorOf start faults.Memory e = IsMemory e
