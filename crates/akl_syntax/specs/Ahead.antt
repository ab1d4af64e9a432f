-- Looking ahead behind the bracket that closes.
use Rattle.std.specs.Prelude.{List, [], ◌∷◌, Bool, true, false, ◌||◌, is_some}
use Rattle.akl_lexemes.specs.declared.lexeme.Lexeme.{Lexeme}
use Rattle.akl_lexemes.specs.declared.lexeme.Lexeme.TheVariants.{Symbol}
use Rattle.akl_text.specs.declared.token.Kind.TheVariants as kinds
use Rattle.term_syntax.specs.declared.level.Level.TheVariants.{Sum, Product}
use Rattle.akl_lexemes.specs.Brackets.{behind_close}
use Rattle.term_syntax.specs.Grammar.{operator_of}
use Rattle.akl_syntax.specs.Goals.{relation_of}

-- an operator of a sum or a product, or a relation
abbrev pub joins : Lexeme → Bool
joins o = is_some (operator_of Product o) || is_some (operator_of Sum o) || is_some (relation_of o)

abbrev pub begins_join : List Lexeme → Bool
begins_join [] = false
begins_join (o ∷ a) = joins o

abbrev pub behind_word : List Lexeme → List Lexeme
behind_word (Lexeme.Mark kinds.OpenCall ∷ a) = behind_close 0 a
behind_word a = a

-- the goal is a test: what stands behind its first symbol or bracket joins it with another term
abbrev pub is_test : List Lexeme → Bool
is_test (Symbol s ∷ a) = begins_join (behind_word a)
is_test (Lexeme.Mark kinds.Open ∷ a) = begins_join (behind_close 0 a)
is_test _ = true
