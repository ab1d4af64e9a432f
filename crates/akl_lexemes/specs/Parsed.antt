-- What a function answers that reads a part of the grammar from the front of lexemes.
use Rattle.std.specs.Prelude.{◌≡◌, Bool, true, false, not, List, [], ◌∷◌, Result, Ok, Err}
use Rattle.akl_text.specs.declared.token.Kind.TheVariants as kinds
use Rattle.akl_lexemes.specs.declared.lexeme.Lexeme.{Lexeme}
use Rattle.akl_lexemes.specs.declared.fault.Fault.{Fault}
use Rattle.akl_lexemes.specs.declared.fault.Fault.TheVariants.{Syntax, Memory}

-- a part that ends before any lexemes
abbrev pub anywhere : List Lexeme → Bool
anywhere a = true

-- a part ends before these lexemes where the first of them does not go on with it
abbrev pub ends : (Lexeme → Bool) → List Lexeme → Bool
ends goes_on [] = true
ends goes_on (o ∷ a) = not (goes_on o)

abbrev pub is_comma : Lexeme → Bool
is_comma (Lexeme.Mark kinds.Comma) = true
is_comma _ = false

-- no part ends so
abbrev pub Nothing : {Y : Type 0} → (Y → List Lexeme → Type 0) → (List Lexeme → Bool) → Type 0
Nothing {Y} R edge = (t : Y) (b : List Lexeme) → R t b → edge b ≡ true → ⊥

abbrev pub Refuses : {Y : Type 0} → (Y → List Lexeme → Type 0) → (List Lexeme → Bool) → Fault → Type 0
Refuses R edge Syntax = Nothing R edge
Refuses R edge Memory = Unit {0}

-- What was read is such a part and ends so, and where it is refused there is none.
abbrev pub Parsed : {X Y : Type 0} → (X → Y × List Lexeme) → (Y → List Lexeme → Type 0) → (List Lexeme → Bool) → Result X Fault → Type 0
Parsed view R edge (Ok x) = R (view x).0 (view x).1 × (edge (view x).1 ≡ true)
Parsed view R edge (Err f) = Refuses R edge f
