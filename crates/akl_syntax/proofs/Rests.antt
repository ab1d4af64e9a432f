-- What holds of lexemes, and with any lexemes of those behind the first, holds of what the reading of goals leaves.
use Rattle.std.proofs.Common.{List, ◌∷◌}
use Rattle.akl_lexemes.specs.declared.lexeme.Lexeme.{Lexeme}
use Rattle.akl_syntax.specs.Goals.{Goal, Part, GoalIs, Conj, Conjs, PartIs, PartsAre, collecting, atom_goal, test, conj, no_conjs, and, unguarded, guarded, no_parts_more, or}
use Rattle.akl_syntax.specs.Goals as made
use Rattle.term_syntax.proofs.Rests.{expr_rest, arguments_rest}

module _ (P : List Lexeme → Type 0) (behind : (o : Lexeme) (a : List Lexeme) → P (o ∷ a) → P a) where
  mutual
    goal_rest : {a b : List Lexeme} {gs : List Goal} → GoalIs a gs b → P a → P b
    goal_rest (collecting w p g q) h = behind _ _ (expr_rest P behind q (behind _ _ (goal_rest g (behind _ _ (expr_rest P behind p (behind _ _ (behind _ _ h)))))))
    goal_rest (atom_goal n p) h = arguments_rest P behind p (behind _ _ h)
    goal_rest (test n p e q) h = expr_rest P behind q (behind _ _ (expr_rest P behind p h))
    goal_rest (made.brackets p q) h = behind _ _ (parts_rest q (part_rest p (behind _ _ h)))

    pub conj_rest : {a b : List Lexeme} {gs : List Goal} → Conj a gs b → P a → P b
    conj_rest (conj p q) h = conjs_rest q (goal_rest p h)

    conjs_rest : {a b : List Lexeme} {gs : List Goal} → Conjs a gs b → P a → P b
    conjs_rest no_conjs h = h
    conjs_rest (and p q) h = conjs_rest q (goal_rest p (behind _ _ h))

    pub part_rest : {a b : List Lexeme} {p : Part} → PartIs a p b → P a → P b
    part_rest (made.plain p) h = conj_rest p h
    part_rest (unguarded e p) h = conj_rest p (behind _ _ h)
    part_rest (guarded p e q) h = conj_rest q (behind _ _ (conj_rest p h))

    pub parts_rest : {a b : List Lexeme} {ps : List Part} → PartsAre a ps b → P a → P b
    parts_rest no_parts_more h = h
    parts_rest (or p q) h = parts_rest q (part_rest p (behind _ _ h))
