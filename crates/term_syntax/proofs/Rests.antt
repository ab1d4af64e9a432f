-- What holds of lexemes, and with any lexemes of those behind the first, holds of what the reading of a term leaves.
use Rattle.std.proofs.Common.{List, ◌∷◌}
use Rattle.akl_lexemes.specs.declared.lexeme.Lexeme.{Lexeme}
use Rattle.term_syntax.specs.declared.level.Level.{Level}
use Rattle.term_syntax.specs.Tree.{Tree, Step, Tail}
use Rattle.term_syntax.specs.Grammar.{Expr, More, Operand, Primary, Arguments, ListEnd, Items, Others, operands, done, next, product, primary, variable_is, integer_is, atom, empty_list, whole_list, brackets, plain, call, closed, bar, items, no_others, other}

module _ (P : List Lexeme → Type 0) (behind : (o : Lexeme) (a : List Lexeme) → P (o ∷ a) → P a) where
  mutual
    pub expr_rest : {l : Level} {a b : List Lexeme} {t : Tree} → Expr l a t b → P a → P b
    expr_rest (operands p m) h = more_rest m (operand_rest p h)

    pub more_rest : {l : Level} {a b : List Lexeme} {ss : List Step} → More l a ss b → P a → P b
    more_rest done h = h
    more_rest (next e p m) h = more_rest m (operand_rest p (behind _ _ h))

    pub operand_rest : {l : Level} {a b : List Lexeme} {t : Tree} → Operand l a t b → P a → P b
    operand_rest (product p) h = expr_rest p h
    operand_rest (primary p) h = primary_rest p h

    pub primary_rest : {a b : List Lexeme} {t : Tree} → Primary a t b → P a → P b
    primary_rest variable_is h = behind _ _ h
    primary_rest integer_is h = behind _ _ h
    primary_rest (atom p) h = arguments_rest p (behind _ _ h)
    primary_rest empty_list h = behind _ _ (behind _ _ h)
    primary_rest (whole_list p q) h = list_end_rest q (items_rest p (behind _ _ h))
    primary_rest (brackets p) h = behind _ _ (expr_rest p (behind _ _ h))

    pub arguments_rest : {a b : List Lexeme} {ts : List Tree} → Arguments a ts b → P a → P b
    arguments_rest (plain x) h = h
    arguments_rest (call p) h = behind _ _ (items_rest p (behind _ _ h))

    pub list_end_rest : {a b : List Lexeme} {e : Tail} → ListEnd a e b → P a → P b
    list_end_rest closed h = behind _ _ h
    list_end_rest (bar p) h = behind _ _ (expr_rest p (behind _ _ h))

    pub items_rest : {a b : List Lexeme} {ts : List Tree} → Items a ts b → P a → P b
    items_rest (items p q) h = others_rest q (expr_rest p h)

    pub others_rest : {a b : List Lexeme} {ts : List Tree} → Others a ts b → P a → P b
    others_rest no_others h = h
    others_rest (other p q) h = others_rest q (expr_rest p (behind _ _ h))
