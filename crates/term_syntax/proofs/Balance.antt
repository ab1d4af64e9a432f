-- Each part of a term closes the brackets that it opens.
use Rattle.std.proofs.Common.{◌≡◌, ℕ, suc, List, ◌∷◌, Some, refl, ◌∙◌}
use Rattle.akl_lexemes.specs.declared.lexeme.Lexeme.{Lexeme}
use Rattle.akl_lexemes.specs.declared.lexeme.Lexeme.TheVariants.{Symbol, Variable, Integer}
use Rattle.akl_text.specs.declared.token.Kind.TheVariants as kinds
use Rattle.akl_lexemes.specs.declared.brackets.Turn.TheVariants.{Stays}
use Rattle.akl_lexemes.specs.Brackets.{turn, behind_close}
use Rattle.term_syntax.specs.declared.level.Level.{Level}
use Rattle.term_syntax.specs.declared.level.Level.TheVariants.{Sum, Product}
use Rattle.term_syntax.specs.Tree.{Tree, Step, Tail}
use Rattle.term_syntax.specs.Grammar.{operator_of, kind_operator, Expr, More, Operand, Primary, Arguments, ListEnd, Items, Others, operands, done, next, product, primary, variable_is, integer_is, atom, empty_list, whole_list, brackets, plain, call, closed, bar, items, no_others, other}

operator_stays : (l : Level) (o : Lexeme) (w : List ℕ) → operator_of l o ≡ Some w → turn o ≡ Stays
operator_stays l (Symbol s) w e = refl
operator_stays l (Variable n) w e = refl
operator_stays l (Integer z) w e = refl
operator_stays Sum (Lexeme.Mark m) w e = (elim m as (λ x. kind_operator Sum x ≡ Some w → turn (Lexeme.Mark x) ≡ Stays) [ kinds.Plus ↦ λ h. refl | kinds.Minus ↦ λ h. refl | _ ↦ λ h. absurd cc ]) e
operator_stays Product (Lexeme.Mark m) w e = (elim m as (λ x. kind_operator Product x ≡ Some w → turn (Lexeme.Mark x) ≡ Stays) [ kinds.Star ↦ λ h. refl | kinds.Div ↦ λ h. refl | kinds.Mod ↦ λ h. refl | _ ↦ λ h. absurd cc ]) e

pub stays_is : (o : Lexeme) (n : ℕ) (a : List Lexeme) → turn o ≡ Stays → behind_close n (o ∷ a) ≡ behind_close n a
stays_is o n a e = rw e refl

mutual
  pub expr_even : {l : Level} {a b : List Lexeme} {t : Tree} → Expr l a t b → (n : ℕ) → behind_close n a ≡ behind_close n b
  expr_even (operands p m) n = operand_even p n ∙ more_even m n

  pub more_even : {l : Level} {a b : List Lexeme} {ss : List Step} → More l a ss b → (n : ℕ) → behind_close n a ≡ behind_close n b
  more_even done n = refl
  more_even {l} (next {o = o} {a = a} {w = w} e p m) n = stays_is o n a (operator_stays l o w e) ∙ operand_even p n ∙ more_even m n

  pub operand_even : {l : Level} {a b : List Lexeme} {t : Tree} → Operand l a t b → (n : ℕ) → behind_close n a ≡ behind_close n b
  operand_even (product p) n = expr_even p n
  operand_even (primary p) n = primary_even p n

  pub primary_even : {a b : List Lexeme} {t : Tree} → Primary a t b → (n : ℕ) → behind_close n a ≡ behind_close n b
  primary_even variable_is n = refl
  primary_even integer_is n = refl
  primary_even (atom p) n = arguments_even p n
  primary_even empty_list n = refl
  primary_even (whole_list p q) n = items_even p (suc n) ∙ list_end_even q n
  primary_even (brackets p) n = expr_even p (suc n)

  pub arguments_even : {a b : List Lexeme} {ts : List Tree} → Arguments a ts b → (n : ℕ) → behind_close n a ≡ behind_close n b
  arguments_even (plain x) n = refl
  arguments_even (call p) n = items_even p (suc n)

  pub list_end_even : {a b : List Lexeme} {e : Tail} → ListEnd a e b → (n : ℕ) → behind_close (suc n) a ≡ behind_close n b
  list_end_even closed n = refl
  list_end_even (bar p) n = expr_even p (suc n)

  pub items_even : {a b : List Lexeme} {ts : List Tree} → Items a ts b → (n : ℕ) → behind_close n a ≡ behind_close n b
  items_even (items p q) n = expr_even p n ∙ others_even q n

  pub others_even : {a b : List Lexeme} {ts : List Tree} → Others a ts b → (n : ℕ) → behind_close n a ≡ behind_close n b
  others_even no_others n = refl
  others_even (other p q) n = expr_even p n ∙ others_even q n
