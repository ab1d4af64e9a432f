-- Where goals end: the lexeme behind them can't go on with them.
use Rattle.std.specs.Prelude.{Bool, true, false, ◌||◌, is_some, List}
use Rattle.akl_text.specs.declared.token.Kind.TheVariants as kinds
use Rattle.akl_lexemes.specs.declared.lexeme.Lexeme.{Lexeme}
use Rattle.akl_lexemes.specs.Parsed.{ends, is_comma}
use Rattle.akl_syntax.specs.Goals.{guard_of}
use Rattle.akl_syntax.specs.Ahead.{joins}

abbrev pub is_semicolon : Lexeme → Bool
is_semicolon (Lexeme.Mark kinds.Semicolon) = true
is_semicolon _ = false

abbrev pub ends_goal : List Lexeme → Bool
ends_goal a = ends joins a

abbrev pub ends_conj : List Lexeme → Bool
ends_conj a = ends (λ o. joins o || is_comma o) a

abbrev pub ends_part : List Lexeme → Bool
ends_part a = ends (λ o. joins o || is_comma o || is_some (guard_of o)) a

abbrev pub ends_parts : List Lexeme → Bool
ends_parts a = ends (λ o. joins o || is_comma o || is_some (guard_of o) || is_semicolon o) a
