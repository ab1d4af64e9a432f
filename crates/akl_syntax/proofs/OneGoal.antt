-- Goals have one reading.
use Rattle.std.proofs.Common.{◌≡◌, ℕ, ◌<◌, ◌≤◌, Bool, true, false, List, [], ◌∷◌, length, Some, refl, sym, ap, subst, arith}
use Rattle.std.specs.Prelude.{not, ◌||◌, is_some}
use Rattle.akl_lexemes.specs.declared.lexeme.Lexeme.{Lexeme}
use Rattle.akl_lexemes.specs.declared.lexeme.Lexeme.TheVariants.{Symbol, Variable, Integer}
use Rattle.akl_text.specs.declared.token.Kind.TheVariants as kinds
use Rattle.term_syntax.specs.declared.level.Level.{Level}
use Rattle.term_syntax.specs.declared.level.Level.TheVariants.{Sum}
use Rattle.akl_terms.specs.declared.program.Op.{Op}
use Rattle.term_syntax.specs.Tree.{Tree}
use Rattle.term_syntax.specs.Grammar.{Expr, Operand, operands, product, primary, atom, brackets, whole_list, empty_list, variable_is, integer_is}
use Rattle.akl_syntax.specs.Goals.{Goal, Part, GoalIs, Conj, Conjs, PartIs, PartsAre, collecting, atom_goal, test, conj, no_conjs, and, unguarded, guarded, no_parts_more, or, relation_of, kind_relation, guard_of, kind_guard, plain_part}
use Rattle.akl_syntax.specs.Goals as made
use Rattle.akl_lexemes.specs.Parsed.{is_comma}
use Rattle.term_syntax.specs.Ends.{ends_chain}
use Rattle.akl_syntax.specs.Ahead.{joins, begins_join}
use Rattle.akl_syntax.specs.Ends.{ends_goal, ends_conj, ends_part, ends_parts}
use Rattle.term_syntax.proofs.Unique.{expr_one, arguments_one, expr_takes, arguments_takes, tail_is, not_or_left, not_or_right}
use Rattle.akl_syntax.proofs.Balance.{test_is, atom_is, brackets_is}

-- ---- each takes a lexeme
mutual
  pub goal_takes : {a b : List Lexeme} {gs : List Goal} → GoalIs a gs b → length b < length a
  goal_takes (collecting w p g q) = omega (arith, expr_takes p, goal_takes g, expr_takes q)
  goal_takes (atom_goal n p) = omega (arith, arguments_takes p)
  goal_takes (test n p e q) = omega (arith, expr_takes p, expr_takes q)
  goal_takes (made.brackets p q) = omega (arith, part_takes p, parts_take q)

  pub conj_takes : {a b : List Lexeme} {gs : List Goal} → Conj a gs b → length b < length a
  conj_takes (conj p q) = omega (arith, goal_takes p, conjs_take q)

  pub conjs_take : {a b : List Lexeme} {gs : List Goal} → Conjs a gs b → length b ≤ length a
  conjs_take no_conjs = omega arith
  conjs_take (and p q) = omega (arith, goal_takes p, conjs_take q)

  pub part_takes : {a b : List Lexeme} {x : Part} → PartIs a x b → length b < length a
  part_takes (made.plain p) = conj_takes p
  part_takes (unguarded e p) = omega (arith, conj_takes p)
  part_takes (guarded p e q) = omega (arith, conj_takes p, conj_takes q)

  pub parts_take : {a b : List Lexeme} {xs : List Part} → PartsAre a xs b → length b ≤ length a
  parts_take no_parts_more = omega arith
  parts_take (or p q) = omega (arith, part_takes p, parts_take q)

-- ---- edges
pub goal_ends : (a : List Lexeme) → ends_conj a ≡ true → ends_goal a ≡ true
goal_ends [] e = refl
goal_ends (o ∷ a) e = not_or_left _ _ e

pub conj_ends : (a : List Lexeme) → ends_part a ≡ true → ends_conj a ≡ true
conj_ends [] e = refl
conj_ends (o ∷ a) e = not_or_left _ _ e

pub part_ends : (a : List Lexeme) → ends_parts a ≡ true → ends_part a ≡ true
part_ends [] e = refl
part_ends (o ∷ a) e = not_or_left _ _ e

not_true : (x : Bool) → not x ≡ true → x ≡ false
not_true true e = absurd cc
not_true false e = refl

pub no_join : (a : List Lexeme) → ends_goal a ≡ true → begins_join a ≡ false
no_join [] e = refl
no_join (o ∷ a) e = not_true _ e

pub sum_ends : (a : List Lexeme) → ends_goal a ≡ true → ends_chain Sum a ≡ true
sum_ends [] e = refl
sum_ends (o ∷ a) e = not_or_left _ _ e

pub relation_stops : (o : Lexeme) (a : List Lexeme) (w : List ℕ) → relation_of o ≡ Some w → ends_chain Sum (o ∷ a) ≡ true
relation_stops (Symbol s) a w e = absurd cc
relation_stops (Variable n) a w e = absurd cc
relation_stops (Integer z) a w e = absurd cc
relation_stops (Lexeme.Mark m) a w e = (elim m as (λ x. kind_relation x ≡ Some w → ends_chain Sum (Lexeme.Mark x ∷ a) ≡ true) [ kinds.Equal ↦ λ h. refl | kinds.Is ↦ λ h. refl | kinds.Less ↦ λ h. refl | kinds.Greater ↦ λ h. refl | kinds.AtMost ↦ λ h. refl | kinds.AtLeast ↦ λ h. refl | kinds.Same ↦ λ h. refl | kinds.Differs ↦ λ h. refl | _ ↦ λ h. absurd cc ]) e

pub guard_ends : (o : Lexeme) (a : List Lexeme) (w : Op) → guard_of o ≡ Some w → ends_conj (o ∷ a) ≡ true
guard_ends (Symbol s) a w e = absurd cc
guard_ends (Variable n) a w e = absurd cc
guard_ends (Integer z) a w e = absurd cc
guard_ends (Lexeme.Mark m) a w e = (elim m as (λ x. kind_guard x ≡ Some w → ends_conj (Lexeme.Mark x ∷ a) ≡ true) [ kinds.Arrow ↦ λ h. refl | kinds.Bar ↦ λ h. refl | kinds.Question ↦ λ h. refl | _ ↦ λ h. absurd cc ]) e

pub guard_goes : (o : Lexeme) (a : List Lexeme) (w : Op) → guard_of o ≡ Some w → ends_part (o ∷ a) ≡ true → ⊥
guard_goes o a w e s =
    let h : is_some (guard_of o) ≡ true = rw e refl in
    let k = not_or_right (joins o || is_comma o) (is_some (guard_of o)) s in cc

pub conjs_end : {a b : List Lexeme} {gs : List Goal} → Conjs a gs b → ends_conj b ≡ true → ends_goal a ≡ true
conjs_end {a} no_conjs s = goal_ends a s
conjs_end (and p q) s = refl

pub parts_end : {a b : List Lexeme} {xs : List Part} → PartsAre a xs b → ends_parts b ≡ true → ends_part a ≡ true
parts_end {a} no_parts_more s = part_ends a s
parts_end (or p q) s = refl

-- ---- no goal begins with a guard operator
mutual
  expr_no_guard : {l : Level} {o : Lexeme} {a b : List Lexeme} {t : Tree} {op : Op} → guard_of o ≡ Some op → Expr l (o ∷ a) t b → ⊥
  expr_no_guard e (operands p m) = operand_no_guard e p

  operand_no_guard : {l : Level} {o : Lexeme} {a b : List Lexeme} {t : Tree} {op : Op} → guard_of o ≡ Some op → Operand l (o ∷ a) t b → ⊥
  operand_no_guard e (product p) = expr_no_guard e p
  operand_no_guard e (primary variable_is) = absurd cc
  operand_no_guard e (primary integer_is) = absurd cc
  operand_no_guard e (primary (atom p)) = absurd cc
  operand_no_guard e (primary empty_list) = absurd cc
  operand_no_guard e (primary (whole_list p q)) = absurd cc
  operand_no_guard e (primary (brackets p)) = absurd cc

goal_no_guard : {o : Lexeme} {a b : List Lexeme} {gs : List Goal} {op : Op} → guard_of o ≡ Some op → GoalIs (o ∷ a) gs b → ⊥
goal_no_guard e (collecting w p g q) = absurd cc
goal_no_guard e (atom_goal n p) = absurd cc
goal_no_guard e (test n p x q) = expr_no_guard e p
goal_no_guard e (made.brackets p q) = absurd cc

pub conj_no_guard : {o : Lexeme} {a b : List Lexeme} {gs : List Goal} {op : Op} → guard_of o ≡ Some op → Conj (o ∷ a) gs b → ⊥
conj_no_guard e (conj p q) = goal_no_guard e p

head_is : (o o' : Lexeme) (a a' : List Lexeme) → o ∷ a ≡ o' ∷ a' → o ≡ o'
head_is o o' a a' e = cc

pub opposite : (x : Bool) → x ≡ true → x ≡ false → ⊥
opposite x e f = absurd cc

mutual
  pub goal_one : {a b b' : List Lexeme} {gs gs' : List Goal} → GoalIs a gs b → GoalIs a gs' b' → ends_goal b ≡ true → ends_goal b' ≡ true → (gs ≡ gs') × (b ≡ b')
  goal_one (collecting {b = c} {c = d} {d = b} {t = t} {u = u} {gs = hs} w p g q) (collecting {b = c'} {c = d'} {d = b'} {t = t'} {u = u'} {gs = hs'} w' p' g' q') s s' =
      let h = expr_one p p' refl refl in
      let k = goal_one g (subst (λ (z : List Lexeme). GoalIs z hs' (Lexeme.Mark kinds.Comma ∷ d')) (sym (tail_is _ _ c c' h.1)) g') refl refl in
      let l = expr_one q (subst (λ (z : List Lexeme). Expr Sum z u' (Lexeme.Mark kinds.Close ∷ b')) (sym (tail_is _ _ d d' k.1)) q') refl refl in
      ((let x : t ≡ t' = h.0 in let y : hs ≡ hs' = k.0 in let z : u ≡ u' = l.0 in cc), tail_is _ _ b b' l.1)
  goal_one (collecting w p g q) (atom_goal n r) s s' = absurd (opposite _ w n)
  goal_one (collecting w p g q) (test n r e x) s s' = absurd (opposite _ w n)
  goal_one (atom_goal n r) (collecting w p g q) s s' = absurd (opposite _ w n)
  goal_one (test n r e x) (collecting w p g q) s s' = absurd (opposite _ w n)
  goal_one (atom_goal {ts = ts} n p) (atom_goal {ts = ts'} n' q) s s' = let h = arguments_one p q in ((let e : ts ≡ ts' = h.0 in cc), h.1)
  goal_one {b = b} (atom_goal {s = w} n p) (test n' q e r) s s' = absurd (opposite _ (test_is _ q e) (atom_is w p (no_join b s)))
  goal_one {b' = b'} (test n' q e r) (atom_goal {s = w} n p) s s' = absurd (opposite _ (test_is _ q e) (atom_is w p (no_join b' s')))
  goal_one {b = b} {b' = b'} (test {o = o} {b = c} {w = w} {t = t} {u = u} n p e q) (test {o = o'} {b = c'} {w = w'} {t = t'} {u = u'} n' p' e' q') s s' =
      let h = expr_one p p' (relation_stops o c w e) (relation_stops o' c' w' e') in
      let k = expr_one q (subst (λ (z : List Lexeme). Expr Sum z u' b') (sym (tail_is o o' c c' h.1)) q') (sum_ends b s) (sum_ends b' s') in
      let eo : o ≡ o' = head_is o o' c c' h.1 in
      let ew : w ≡ w' = cc in
      ((let x : t ≡ t' = h.0 in let y : u ≡ u' = k.0 in cc), k.1)
  goal_one {b = b} (made.brackets p q) (test n r e x) s s' = absurd (opposite _ (test_is _ r e) (brackets_is p q (no_join b s)))
  goal_one {b' = b'} (test n r e x) (made.brackets p q) s s' = absurd (opposite _ (test_is _ r e) (brackets_is p q (no_join b' s')))
  goal_one (made.brackets {c = c} {p = x} {ps = xs} p q) (made.brackets {c = c'} {p = x'} {ps = xs'} p' q') s s' =
      let h = part_one p p' (parts_end q refl) (parts_end q' refl) in
      let k = parts_one q q' h.1 refl refl in
      ((let e : x ≡ x' = h.0 in let f : xs ≡ xs' = k.0 in cc), tail_is _ _ c c' k.1)

  pub conj_one : {a b b' : List Lexeme} {gs gs' : List Goal} → Conj a gs b → Conj a gs' b' → ends_conj b ≡ true → ends_conj b' ≡ true → (gs ≡ gs') × (b ≡ b')
  conj_one (conj {gs = gs} {hs = hs} p q) (conj {gs = gs'} {hs = hs'} p' q') s s' =
      let h = goal_one p p' (conjs_end q s) (conjs_end q' s') in
      let k = conjs_one q q' h.1 s s' in
      ((let e : gs ≡ gs' = h.0 in let f : hs ≡ hs' = k.0 in cc), k.1)

  pub conjs_one : {a a' b b' : List Lexeme} {gs gs' : List Goal} → Conjs a gs b → Conjs a' gs' b' → a ≡ a' → ends_conj b ≡ true → ends_conj b' ≡ true → (gs ≡ gs') × (b ≡ b')
  conjs_one no_conjs no_conjs e s s' = (refl, e)
  conjs_one no_conjs (and {a = a} p q) e s s' = absurd (let h : ends_conj (Lexeme.Mark kinds.Comma ∷ a) ≡ true = subst (λ (z : List Lexeme). ends_conj z ≡ true) e s in cc)
  conjs_one (and {a = a} p q) no_conjs e s s' = absurd (let h : ends_conj (Lexeme.Mark kinds.Comma ∷ a) ≡ true = subst (λ (z : List Lexeme). ends_conj z ≡ true) (sym e) s' in cc)
  conjs_one (and {a = a} {gs = gs} {hs = hs} p q) (and {a = a'} {b = c'} {gs = gs'} {hs = hs'} p' q') e s s' =
      let h = goal_one p (subst (λ (z : List Lexeme). GoalIs z gs' c') (sym (tail_is _ _ a a' e)) p') (conjs_end q s) (conjs_end q' s') in
      let k = conjs_one q q' h.1 s s' in
      ((let x : gs ≡ gs' = h.0 in let y : hs ≡ hs' = k.0 in cc), k.1)

  pub part_one : {a b b' : List Lexeme} {x x' : Part} → PartIs a x b → PartIs a x' b' → ends_part b ≡ true → ends_part b' ≡ true → (x ≡ x') × (b ≡ b')
  part_one {b = b} {b' = b'} (made.plain {gs = gs} p) (made.plain {gs = gs'} p') s s' =
      let h = conj_one p p' (conj_ends b s) (conj_ends b' s') in ((let e : gs ≡ gs' = h.0 in ap plain_part e), h.1)
  part_one (made.plain p) (unguarded e p') s s' = absurd (conj_no_guard e p)
  part_one (unguarded e p') (made.plain p) s s' = absurd (conj_no_guard e p)
  part_one {b = b} (made.plain p) (guarded {o = o} {b = c} {op = op} p' e q') s s' =
      let h = conj_one p p' (conj_ends b s) (guard_ends o c op e) in absurd (guard_goes o c op e (subst (λ (z : List Lexeme). ends_part z ≡ true) h.1 s))
  part_one {b' = b'} (guarded {o = o} {b = c} {op = op} p' e q') (made.plain p) s s' =
      let h = conj_one p' p (guard_ends o c op e) (conj_ends b' s') in absurd (guard_goes o c op e (subst (λ (z : List Lexeme). ends_part z ≡ true) (sym h.1) s'))
  part_one {b = b} {b' = b'} (unguarded {gs = gs} {op = op} e p) (unguarded {gs = gs'} {op = op'} e' p') s s' =
      let h = conj_one p p' (conj_ends b s) (conj_ends b' s') in
      let eo : op ≡ op' = cc in
      ((let x : gs ≡ gs' = h.0 in cc), h.1)
  part_one (unguarded e p) (guarded p' e' q') s s' = absurd (conj_no_guard e p')
  part_one (guarded p' e' q') (unguarded e p) s s' = absurd (conj_no_guard e p')
  part_one {b = b} {b' = b'} (guarded {o = o} {b = c} {gs = gs} {hs = hs} {op = op} p e q) (guarded {o = o'} {b = c'} {gs = gs'} {hs = hs'} {op = op'} p' e' q') s s' =
      let h = conj_one p p' (guard_ends o c op e) (guard_ends o' c' op' e') in
      let k = conj_one q (subst (λ (z : List Lexeme). Conj z hs' b') (sym (tail_is o o' c c' h.1)) q') (conj_ends b s) (conj_ends b' s') in
      let eo : o ≡ o' = head_is o o' c c' h.1 in
      let ep : op ≡ op' = cc in
      ((let x : gs ≡ gs' = h.0 in let y : hs ≡ hs' = k.0 in cc), k.1)

  pub parts_one : {a a' b b' : List Lexeme} {xs xs' : List Part} → PartsAre a xs b → PartsAre a' xs' b' → a ≡ a' → ends_parts b ≡ true → ends_parts b' ≡ true → (xs ≡ xs') × (b ≡ b')
  parts_one no_parts_more no_parts_more e s s' = (refl, e)
  parts_one no_parts_more (or {a = a} p q) e s s' = absurd (let h : ends_parts (Lexeme.Mark kinds.Semicolon ∷ a) ≡ true = subst (λ (z : List Lexeme). ends_parts z ≡ true) e s in cc)
  parts_one (or {a = a} p q) no_parts_more e s s' = absurd (let h : ends_parts (Lexeme.Mark kinds.Semicolon ∷ a) ≡ true = subst (λ (z : List Lexeme). ends_parts z ≡ true) (sym e) s' in cc)
  parts_one (or {a = a} {p = x} {ps = xs} p q) (or {a = a'} {b = c'} {p = x'} {ps = xs'} p' q') e s s' =
      let h = part_one p (subst (λ (z : List Lexeme). PartIs z x' c') (sym (tail_is _ _ a a' e)) p') (parts_end q s) (parts_end q' s') in
      let k = parts_one q q' h.1 s s' in
      ((let y : x ≡ x' = h.0 in let z : xs ≡ xs' = k.0 in cc), k.1)
