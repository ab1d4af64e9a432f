-- Goals close the brackets that they open, and a goal is a test exactly where it looks so.
use Rattle.std.proofs.Common.{◌≡◌, ℕ, suc, Bool, true, false, List, [], ◌∷◌, Some, refl, sym, subst, ◌∙◌, inl, inr, ◌⊎◌}
use Rattle.std.specs.Prelude.{◌||◌, is_some}
use Rattle.akl_lexemes.specs.declared.lexeme.Lexeme.{Lexeme}
use Rattle.akl_lexemes.specs.declared.lexeme.Lexeme.TheVariants.{Symbol, Variable, Integer}
use Rattle.akl_text.specs.declared.token.Kind.TheVariants as kinds
use Rattle.akl_terms.specs.declared.program.Op.{Op}
use Rattle.akl_lexemes.specs.declared.brackets.Turn.TheVariants.{Stays}
use Rattle.akl_lexemes.specs.Brackets.{turn, behind_close}
use Rattle.term_syntax.specs.declared.level.Level.{Level}
use Rattle.term_syntax.specs.declared.level.Level.TheVariants.{Sum, Product}
use Rattle.term_syntax.specs.Tree.{Tree, Step}
use Rattle.term_syntax.specs.Grammar.{begins_call, operator_of, Expr, More, Operand, Arguments, operands, done, next, product, primary, atom, brackets, plain, call}
use Rattle.term_syntax.proofs.Unique.{some_is}
use Rattle.term_syntax.proofs.Balance.{stays_is, expr_even, items_even, arguments_even}
use Rattle.akl_syntax.specs.Goals.{Goal, Part, GoalIs, Conj, Conjs, PartIs, PartsAre, collecting, atom_goal, test, conj, no_conjs, and, unguarded, guarded, no_parts_more, or, relation_of, kind_relation, guard_of, kind_guard}
use Rattle.akl_syntax.specs.Goals as made
use Rattle.akl_syntax.specs.Ahead.{joins, begins_join, behind_word, is_test}

relation_stays : (o : Lexeme) (w : List ℕ) → relation_of o ≡ Some w → turn o ≡ Stays
relation_stays (Symbol s) w e = refl
relation_stays (Variable n) w e = refl
relation_stays (Integer z) w e = refl
relation_stays (Lexeme.Mark m) w e = (elim m as (λ x. kind_relation x ≡ Some w → turn (Lexeme.Mark x) ≡ Stays) [ kinds.Equal ↦ λ h. refl | kinds.Is ↦ λ h. refl | kinds.Less ↦ λ h. refl | kinds.Greater ↦ λ h. refl | kinds.AtMost ↦ λ h. refl | kinds.AtLeast ↦ λ h. refl | kinds.Same ↦ λ h. refl | kinds.Differs ↦ λ h. refl | _ ↦ λ h. absurd cc ]) e

guard_stays : (o : Lexeme) (w : Op) → guard_of o ≡ Some w → turn o ≡ Stays
guard_stays (Symbol s) w e = refl
guard_stays (Variable n) w e = refl
guard_stays (Integer z) w e = refl
guard_stays (Lexeme.Mark m) w e = (elim m as (λ x. kind_guard x ≡ Some w → turn (Lexeme.Mark x) ≡ Stays) [ kinds.Arrow ↦ λ h. refl | kinds.Bar ↦ λ h. refl | kinds.Question ↦ λ h. refl | _ ↦ λ h. absurd cc ]) e

mutual
  pub goal_even : {a b : List Lexeme} {gs : List Goal} → GoalIs a gs b → (n : ℕ) → behind_close n a ≡ behind_close n b
  goal_even (collecting w p g q) n = expr_even p (suc n) ∙ goal_even g (suc n) ∙ expr_even q (suc n)
  goal_even (atom_goal n' p) n = arguments_even p n
  goal_even (test {o = o} {b = b} {w = w} n' p e q) n = expr_even p n ∙ stays_is o n b (relation_stays o w e) ∙ expr_even q n
  goal_even (made.brackets p q) n = part_even p (suc n) ∙ parts_even q (suc n)

  pub conj_even : {a b : List Lexeme} {gs : List Goal} → Conj a gs b → (n : ℕ) → behind_close n a ≡ behind_close n b
  conj_even (conj p q) n = goal_even p n ∙ conjs_even q n

  pub conjs_even : {a b : List Lexeme} {gs : List Goal} → Conjs a gs b → (n : ℕ) → behind_close n a ≡ behind_close n b
  conjs_even no_conjs n = refl
  conjs_even (and p q) n = goal_even p n ∙ conjs_even q n

  pub part_even : {a b : List Lexeme} {x : Part} → PartIs a x b → (n : ℕ) → behind_close n a ≡ behind_close n b
  part_even (made.plain p) n = conj_even p n
  part_even (unguarded {o = o} {a = a} {op = op} e p) n = stays_is o n a (guard_stays o op e) ∙ conj_even p n
  part_even (guarded {o = o} {b = b} {op = op} p e q) n = conj_even p n ∙ stays_is o n b (guard_stays o op e) ∙ conj_even q n

  pub parts_even : {a b : List Lexeme} {xs : List Part} → PartsAre a xs b → (n : ℕ) → behind_close n a ≡ behind_close n b
  parts_even no_parts_more n = refl
  parts_even (or p q) n = part_even p n ∙ parts_even q n

-- ---- a goal is a test exactly where it looks so
or_left : (x y : Bool) → x ≡ true → (x || y) ≡ true
or_left x y e = rw e refl

or_right : (x y : Bool) → y ≡ true → (x || y) ≡ true
or_right true y e = refl
or_right false y e = e

operator_joins : (l : Level) (o : Lexeme) (w : List ℕ) → operator_of l o ≡ Some w → joins o ≡ true
operator_joins Product o w e = or_left _ _ (or_left _ _ (some_is _ _ e))
operator_joins Sum o w e = or_left _ _ (or_right (is_some (operator_of Product o)) _ (some_is _ _ e))

relation_joins : (o : Lexeme) (w : List ℕ) → relation_of o ≡ Some w → joins o ≡ true
relation_joins o w e = or_right (is_some (operator_of Product o) || is_some (operator_of Sum o)) _ (some_is _ _ e)

-- what stands behind the first symbol or bracket is the rest, or joins
GoesOn : List Lexeme → List Lexeme → Type 0
GoesOn d b = (d ≡ b) ⊎ (begins_join d ≡ true)

more_goes_on : {l : Level} {b c d : List Lexeme} {ss : List Step} → (d ≡ b) ⊎ (begins_join d ≡ true) → More l b ss c → (d ≡ c) ⊎ (begins_join d ≡ true)
more_goes_on (inr h) m = inr h
more_goes_on (inl e) done = inl e
more_goes_on {l} (inl e) (next {o = o} {w = w} x p m) = inr (subst (λ (z : List Lexeme). begins_join z ≡ true) (sym e) (operator_joins l o w x))

pub behind_plain : (a : List Lexeme) → begins_call a ≡ false → behind_word a ≡ a
behind_plain [] e = refl
behind_plain (Symbol s ∷ a) e = refl
behind_plain (Variable n ∷ a) e = refl
behind_plain (Integer z ∷ a) e = refl
behind_plain (Lexeme.Mark m ∷ a) e = (elim m as (λ x. begins_call (Lexeme.Mark x ∷ a) ≡ false → behind_word (Lexeme.Mark x ∷ a) ≡ Lexeme.Mark x ∷ a) [ kinds.OpenCall ↦ λ h. absurd cc | _ ↦ λ h. refl ]) e

-- the arguments end where the brackets close
pub behind_arguments : {a b : List Lexeme} {ts : List Tree} → Arguments a ts b → behind_word a ≡ b
behind_arguments {a} (plain x) = behind_plain a x
behind_arguments (call p) = items_even p 0

mutual
  expr_word : {l : Level} {s : List ℕ} {a b : List Lexeme} {t : Tree} → Expr l (Symbol s ∷ a) t b → (behind_word a ≡ b) ⊎ (begins_join (behind_word a) ≡ true)
  expr_word (operands p m) = more_goes_on (operand_word p) m

  operand_word : {l : Level} {s : List ℕ} {a b : List Lexeme} {t : Tree} → Operand l (Symbol s ∷ a) t b → (behind_word a ≡ b) ⊎ (begins_join (behind_word a) ≡ true)
  operand_word (product p) = expr_word p
  operand_word (primary (atom p)) = inl (behind_arguments p)

mutual
  expr_open : {l : Level} {a b : List Lexeme} {t : Tree} → Expr l (Lexeme.Mark kinds.Open ∷ a) t b → (behind_close 0 a ≡ b) ⊎ (begins_join (behind_close 0 a) ≡ true)
  expr_open (operands p m) = more_goes_on (operand_open p) m

  operand_open : {l : Level} {a b : List Lexeme} {t : Tree} → Operand l (Lexeme.Mark kinds.Open ∷ a) t b → (behind_close 0 a ≡ b) ⊎ (begins_join (behind_close 0 a) ≡ true)
  operand_open (product p) = expr_open p
  operand_open (primary (brackets p)) = inl (expr_even p 0)

joined : (d : List Lexeme) (o : Lexeme) (b : List Lexeme) (w : List ℕ) → relation_of o ≡ Some w → (d ≡ o ∷ b) ⊎ (begins_join d ≡ true) → begins_join d ≡ true
joined d o b w e (inl h) = rw h (relation_joins o w e)
joined d o b w e (inr h) = h

pub test_is : (a : List Lexeme) {b : List Lexeme} {o : Lexeme} {w : List ℕ} {t : Tree} → Expr Sum a t (o ∷ b) → relation_of o ≡ Some w → is_test a ≡ true
test_is [] p e = refl
test_is (Symbol s ∷ a) {b} {o} {w} p e = joined (behind_word a) o b w e (expr_word p)
test_is (Variable n ∷ a) p e = refl
test_is (Integer z ∷ a) p e = refl
test_is (Lexeme.Mark m ∷ a) {b} {o} {w} {t} p e =
    (elim m as (λ x. Expr Sum (Lexeme.Mark x ∷ a) t (o ∷ b) → is_test (Lexeme.Mark x ∷ a) ≡ true) [ kinds.Open ↦ λ q. joined (behind_close 0 a) o b w e (expr_open q) | _ ↦ λ q. refl ]) p

pub atom_is : (s : List ℕ) {a b : List Lexeme} {ts : List Tree} → Arguments a ts b → begins_join b ≡ false → is_test (Symbol s ∷ a) ≡ false
atom_is s p e = rw (behind_arguments p) e

pub brackets_is : {a b c : List Lexeme} {x : Part} {xs : List Part} → PartIs a x b → PartsAre b xs (Lexeme.Mark kinds.Close ∷ c) → begins_join c ≡ false → is_test (Lexeme.Mark kinds.Open ∷ a) ≡ false
brackets_is p q e = rw (part_even p 0, parts_even q 0) e

pub collecting_is : (s : List ℕ) {a b c d : List Lexeme} {t u : Tree} {gs : List Goal} → Expr Sum a t (Lexeme.Mark kinds.Comma ∷ b) → GoalIs b gs (Lexeme.Mark kinds.Comma ∷ c) → Expr Sum c u (Lexeme.Mark kinds.Close ∷ d) → begins_join d ≡ false
    → is_test (Symbol s ∷ Lexeme.Mark kinds.OpenCall ∷ a) ≡ false
collecting_is s p g q e = rw (expr_even p 0, goal_even g 0, expr_even q 0) e
