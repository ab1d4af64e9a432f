-- What is refused, and what is read under other words.
use Rattle.std.proofs.Common.{◌≡◌, Bool, true, List, sym, subst, Result, Ok, Err}
use Rattle.akl_lexemes.specs.declared.lexeme.Lexeme.{Lexeme}
use Rattle.akl_lexemes.specs.declared.fault.Fault.{Fault}
use Rattle.akl_lexemes.specs.declared.fault.Fault.TheVariants.{Syntax, Memory}
use Rattle.akl_lexemes.specs.Parsed.{Nothing, Refuses, Parsed}

pub refused : (e e' : List Lexeme → Bool) {Y Y' : Type 0} {R : Y → List Lexeme → Type 0} {R' : Y' → List Lexeme → Type 0} (f : Fault) → (Nothing R e → Nothing R' e') → Refuses R e f → Refuses R' e' f
refused e e' Syntax k r = k r
refused e e' Memory k r = tt

pub out_of_memory : (e : List Lexeme → Bool) {Y : Type 0} (R : Y → List Lexeme → Type 0) (f : Fault) → f ≡ Memory → Refuses R e f
out_of_memory e R f h = subst (λ (z : Fault). Refuses R e z) (sym h) tt

pub a_fault : (e : List Lexeme → Bool) {Y : Type 0} (R : Y → List Lexeme → Type 0) (f : Fault) → f ≡ Syntax → Nothing R e → Refuses R e f
a_fault e R f h none = subst (λ (z : Fault). Refuses R e z) (sym h) none

pub reads_as : {X Y : Type 0} (view : X → Y × List Lexeme) (R R' : Y → List Lexeme → Type 0) (e : List Lexeme → Bool) (r : Result X Fault)
    → ((t : Y) (b : List Lexeme) → R t b → R' t b) → ((t : Y) (b : List Lexeme) → R' t b → e b ≡ true → R t b) → Parsed view R e r → Parsed view R' e r
reads_as view R R' e (Ok x) f g h = (f _ _ h.0, h.1)
reads_as view R R' e (Err x) f g h = refused e e x (λ none t b p s. none t b (g t b p s) s) h
