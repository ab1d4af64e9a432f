-- The variables that occur in a term are those of its lexemes.
use Rattle.std.proofs.Common.{◌≡◌, ℕ, List, [], ◌∷◌, ◌++◌, Some, refl, sym, ap, ◌∙◌, append_assoc}
use Rattle.std.proofs.lemmas.List.{append-nil}
use Rattle.akl_lexemes.specs.declared.lexeme.Lexeme.{Lexeme}
use Rattle.akl_lexemes.specs.declared.lexeme.Lexeme.TheVariants.{Symbol, Variable, Integer, Mark}
use Rattle.akl_lexemes.proofs.NumberedLexemes.{lexeme_variables}
use Rattle.term_syntax.specs.declared.level.Level.{Level}
use Rattle.term_syntax.specs.Tree.{Tree, Step, Tail, trees, steps}
use Rattle.term_syntax.specs.Grammar.{operator_of, chained, Expr, More, Operand, Primary, Arguments, ListEnd, Items, Others, operands, done, next, product, primary, variable_is, integer_is, atom, empty_list, whole_list, brackets, plain, call, closed, bar, items, no_others, other}
use Rattle.term_syntax.specs.Variables.{tree_variables, trees_variables, tail_variables, steps_variables}

pub joined : {a b : List ℕ} (x y c : List ℕ) → a ≡ x ++ b → b ≡ y ++ c → a ≡ (x ++ y) ++ c
joined x y c e f = e ∙ ap (λ (z : List ℕ). x ++ z) f ∙ sym (append_assoc x y c)

operator_variables : (l : Level) (o : Lexeme) (a : List Lexeme) (w : List ℕ) → operator_of l o ≡ Some w → lexeme_variables (o ∷ a) ≡ lexeme_variables a
operator_variables l (Mark k) a w e = refl
operator_variables l (Symbol s) a w e = refl
operator_variables l (Integer z) a w e = refl
operator_variables l (Variable n) a w e = absurd cc

chained_variables : (t : Tree) (ss : List Step) → tree_variables (chained t ss) ≡ tree_variables t ++ steps_variables (steps ss)
chained_variables t [] = sym (append-nil (tree_variables t))
chained_variables t (s ∷ ss) = refl

mutual
  pub expr_variables : {l : Level} {a b : List Lexeme} {t : Tree} → Expr l a t b → lexeme_variables a ≡ tree_variables t ++ lexeme_variables b
  expr_variables (operands {c = c} {t = t} {ss = ss} p m) = joined _ _ _ (operand_variables p) (more_variables m) ∙ ap (λ (z : List ℕ). z ++ lexeme_variables c) (sym (chained_variables t ss))

  more_variables : {l : Level} {a b : List Lexeme} {ss : List Step} → More l a ss b → lexeme_variables a ≡ steps_variables (steps ss) ++ lexeme_variables b
  more_variables done = refl
  more_variables {l} (next {o = o} {a = a} {w = w} e p m) = operator_variables l o a w e ∙ joined _ _ _ (operand_variables p) (more_variables m)

  operand_variables : {l : Level} {a b : List Lexeme} {t : Tree} → Operand l a t b → lexeme_variables a ≡ tree_variables t ++ lexeme_variables b
  operand_variables (product p) = expr_variables p
  operand_variables (primary p) = primary_variables p

  primary_variables : {a b : List Lexeme} {t : Tree} → Primary a t b → lexeme_variables a ≡ tree_variables t ++ lexeme_variables b
  primary_variables variable_is = refl
  primary_variables integer_is = refl
  primary_variables (atom p) = arguments_variables p
  primary_variables empty_list = refl
  primary_variables (whole_list p q) = joined _ _ _ (items_variables p) (list_end_variables q)
  primary_variables (brackets p) = expr_variables p

  pub arguments_variables : {a b : List Lexeme} {ts : List Tree} → Arguments a ts b → lexeme_variables a ≡ trees_variables (trees ts) ++ lexeme_variables b
  arguments_variables (plain x) = refl
  arguments_variables (call p) = items_variables p

  list_end_variables : {a b : List Lexeme} {e : Tail} → ListEnd a e b → lexeme_variables a ≡ tail_variables e ++ lexeme_variables b
  list_end_variables closed = refl
  list_end_variables (bar p) = expr_variables p

  items_variables : {a b : List Lexeme} {ts : List Tree} → Items a ts b → lexeme_variables a ≡ trees_variables (trees ts) ++ lexeme_variables b
  items_variables (items p q) = joined _ _ _ (expr_variables p) (others_variables q)

  others_variables : {a b : List Lexeme} {ts : List Tree} → Others a ts b → lexeme_variables a ≡ trees_variables (trees ts) ++ lexeme_variables b
  others_variables no_others = refl
  others_variables (other p q) = joined _ _ _ (expr_variables p) (others_variables q)
