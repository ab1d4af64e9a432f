-- The grammar has one reading.
use Rattle.std.proofs.Common.{◌≡◌, ℕ, ◌<◌, ◌≤◌, Bool, true, false, List, [], ◌∷◌, length, Option, Some, None, refl, sym, subst, arith}
use Rattle.std.specs.Prelude.{not, ◌||◌, is_some}
use Rattle.akl_lexemes.specs.declared.lexeme.Lexeme.{Lexeme}
use Rattle.akl_lexemes.specs.declared.lexeme.Lexeme.TheVariants.{Symbol, Variable, Integer}
use Rattle.akl_text.specs.declared.token.Kind.TheVariants as kinds
use Rattle.term_syntax.specs.declared.level.Level.{Level}
use Rattle.term_syntax.specs.declared.level.Level.TheVariants.{Sum, Product}
use Rattle.term_syntax.specs.Tree.{Tree, Step, Tail}
use Rattle.term_syntax.specs.Grammar.{operator_of, kind_operator, Expr, More, Operand, Primary, Arguments, ListEnd, Items, Others, operands, done, next, product, primary, variable_is, integer_is, atom, empty_list, whole_list, brackets, plain, call, closed, bar, items, no_others, other}
use Rattle.term_syntax.specs.Ends.{ends_chain, ends_items, ends_operand}

-- ---- each part takes at least one lexeme
abbrev mutual
  pub expr_takes : {l : Level} {a b : List Lexeme} {t : Tree} → Expr l a t b → length b < length a
  expr_takes (operands p m) = omega (arith, operand_takes p, more_takes m)

  pub more_takes : {l : Level} {a b : List Lexeme} {ss : List Step} → More l a ss b → length b ≤ length a
  more_takes done = omega arith
  more_takes (next e p m) = omega (arith, operand_takes p, more_takes m)

  pub operand_takes : {l : Level} {a b : List Lexeme} {t : Tree} → Operand l a t b → length b < length a
  operand_takes (product p) = expr_takes p
  operand_takes (primary p) = primary_takes p

  pub primary_takes : {a b : List Lexeme} {t : Tree} → Primary a t b → length b < length a
  primary_takes variable_is = omega arith
  primary_takes integer_is = omega arith
  primary_takes (atom p) = omega (arith, arguments_takes p)
  primary_takes empty_list = omega arith
  primary_takes (whole_list p q) = omega (arith, items_takes p, list_end_takes q)
  primary_takes (brackets p) = omega (arith, expr_takes p)

  pub arguments_takes : {a b : List Lexeme} {ts : List Tree} → Arguments a ts b → length b ≤ length a
  arguments_takes (plain x) = omega arith
  arguments_takes (call p) = omega (arith, items_takes p)

  pub list_end_takes : {a b : List Lexeme} {e : Tail} → ListEnd a e b → length b < length a
  list_end_takes closed = omega arith
  list_end_takes (bar p) = omega (arith, expr_takes p)

  pub items_takes : {a b : List Lexeme} {ts : List Tree} → Items a ts b → length b < length a
  items_takes (items p q) = omega (arith, expr_takes p, others_takes q)

  pub others_takes : {a b : List Lexeme} {ts : List Tree} → Others a ts b → length b ≤ length a
  others_takes no_others = omega arith
  others_takes (other p q) = omega (arith, expr_takes p, others_takes q)

-- ---- what ends a part
pub not_or_left : (x y : Bool) → not (x || y) ≡ true → not x ≡ true
not_or_left true y e = e
not_or_left false y e = refl

pub not_or_right : (x y : Bool) → not (x || y) ≡ true → not y ≡ true
not_or_right true y e = absurd cc
not_or_right false y e = e

pub or_false : (x : Bool) → not x ≡ true → not (x || false) ≡ true
or_false true e = absurd cc
or_false false e = refl

pub inner_stops : (l : Level) (b : List Lexeme) → ends_chain l b ≡ true → ends_operand l b ≡ true
inner_stops Sum [] e = refl
inner_stops Product b e = refl
inner_stops Sum (o ∷ a) e = not_or_left _ _ e

pub sum_stops : (b : List Lexeme) → ends_items b ≡ true → ends_chain Sum b ≡ true
sum_stops [] e = refl
sum_stops (o ∷ a) e = not_or_left _ _ e

pub operator_stops : (l : Level) (o : Lexeme) (a : List Lexeme) (w : List ℕ) → operator_of l o ≡ Some w → ends_operand l (o ∷ a) ≡ true
operator_stops Product o a w e = refl
operator_stops Sum (Symbol s) a w e = absurd cc
operator_stops Sum (Variable n) a w e = absurd cc
operator_stops Sum (Integer z) a w e = absurd cc
operator_stops Sum (Lexeme.Mark m) a w e =
    (elim m as (λ x. kind_operator Sum x ≡ Some w → ends_operand Sum (Lexeme.Mark x ∷ a) ≡ true) [ kinds.Plus ↦ λ h. refl | kinds.Minus ↦ λ h. refl | _ ↦ λ h. absurd cc ]) e

pub some_is : {A : Type 0} (o : Option A) (x : A) → o ≡ Some x → is_some o ≡ true
some_is o x e = rw e refl

pub operator_goes_on : (l : Level) (o : Lexeme) (a : List Lexeme) (w : List ℕ) → operator_of l o ≡ Some w → ends_chain l (o ∷ a) ≡ true → ⊥
operator_goes_on Sum o a w e s = let h : is_some (operator_of Sum o) ≡ true = some_is _ _ e in let k = not_or_right (is_some (operator_of Product o)) (is_some (operator_of Sum o)) s in cc
operator_goes_on Product o a w e s = let h : is_some (operator_of Product o) ≡ true = some_is _ _ e in cc

-- what stops inside and begins with no operator stops
pub no_operator_stops : (l : Level) (o : Lexeme) (a : List Lexeme) → operator_of l o ≡ None → ends_operand l (o ∷ a) ≡ true → ends_chain l (o ∷ a) ≡ true
no_operator_stops Sum o a e s = rw e (or_false _ s)
no_operator_stops Product o a e s = rw e refl

pub no_comma_stops : (a : List Lexeme) → ((b : List Lexeme) → a ≡ Lexeme.Mark kinds.Comma ∷ b → ⊥) → ends_chain Sum a ≡ true → ends_items a ≡ true
no_comma_stops [] none s = refl
no_comma_stops (Symbol w ∷ a) none s = refl
no_comma_stops (Variable n ∷ a) none s = refl
no_comma_stops (Integer z ∷ a) none s = refl
no_comma_stops (Lexeme.Mark m ∷ a) none s =
    (elim m as (λ x. ((b : List Lexeme) → Lexeme.Mark x ∷ a ≡ Lexeme.Mark kinds.Comma ∷ b → ⊥) → ends_chain Sum (Lexeme.Mark x ∷ a) ≡ true → ends_items (Lexeme.Mark x ∷ a) ≡ true) [ kinds.Comma ↦ λ h k. absurd (h a refl) | _ ↦ λ h k. k ]) none s

pub more_stops : {l : Level} {b c : List Lexeme} {ss : List Step} → More l b ss c → ends_chain l c ≡ true → ends_operand l b ≡ true
more_stops {l} {b} done s = inner_stops l b s
more_stops {l} (next {o = o} {a = a} {w = w} e p m) s = operator_stops l o a w e

-- ---- what no part begins with
mutual
  pub expr_no_close : {l : Level} {a b : List Lexeme} {t : Tree} → Expr l (Lexeme.Mark kinds.CloseList ∷ a) t b → ⊥
  expr_no_close (operands p m) = operand_no_close p

  pub operand_no_close : {l : Level} {a b : List Lexeme} {t : Tree} → Operand l (Lexeme.Mark kinds.CloseList ∷ a) t b → ⊥
  operand_no_close (product p) = expr_no_close p
  operand_no_close (primary p) = elim p [ ]

pub items_no_close : {a b : List Lexeme} {ts : List Tree} → Items (Lexeme.Mark kinds.CloseList ∷ a) ts b → ⊥
items_no_close (items p q) = expr_no_close p

pub list_end_stops : {a b : List Lexeme} {e : Tail} → ListEnd a e b → ends_items a ≡ true
list_end_stops closed = refl
list_end_stops (bar p) = refl

pub others_stop : {a b : List Lexeme} {ts : List Tree} → Others a ts b → ends_items b ≡ true → ends_chain Sum a ≡ true
others_stop {a} no_others s = sum_stops a s
others_stop (other p q) s = refl

-- ---- one reading
pub tail_is : (o o' : Lexeme) (a a' : List Lexeme) → o ∷ a ≡ o' ∷ a' → a ≡ a'
tail_is o o' a a' e = cc

mutual
  pub expr_one : {l : Level} {a b b' : List Lexeme} {t t' : Tree} → Expr l a t b → Expr l a t' b' → ends_chain l b ≡ true → ends_chain l b' ≡ true → (t ≡ t') × (b ≡ b')
  expr_one {l} (operands {t = t} {ss = ss} p m) (operands {t = t'} {ss = ss'} p' m') s s' =
      let h = operand_one p p' (more_stops m s) (more_stops m' s') in
      let k = more_one m m' h.1 s s' in
      ((let e : t ≡ t' = h.0 in let e' : ss ≡ ss' = k.0 in cc), k.1)

  pub more_one : {l : Level} {a a' b b' : List Lexeme} {ss ss' : List Step} → More l a ss b → More l a' ss' b' → a ≡ a' → ends_chain l b ≡ true → ends_chain l b' ≡ true → (ss ≡ ss') × (b ≡ b')
  more_one done done e s s' = (refl, e)
  more_one {l} done (next {o = o} {a = a} {w = w} x p m) e s s' = absurd (operator_goes_on l o a w x (subst (λ (z : List Lexeme). ends_chain l z ≡ true) e s))
  more_one {l} (next {o = o} {a = a} {w = w} x p m) done e s s' = absurd (operator_goes_on l o a w x (subst (λ (z : List Lexeme). ends_chain l z ≡ true) (sym e) s'))
  more_one {l} (next {o = o} {a = a} {b = b} {w = w} {t = t} {ss = ss} x p m) (next {o = o'} {a = a'} {b = c'} {w = w'} {t = t'} {ss = ss'} x' p' m') e s s' =
      let ea : a ≡ a' = tail_is o o' a a' e in
      let eo : o ≡ o' = cc in
      let h = operand_one p (subst (λ (z : List Lexeme). Operand l z t' c') (sym ea) p') (more_stops m s) (more_stops m' s') in
      let k = more_one m m' h.1 s s' in
      let ew : w ≡ w' = cc in
      let e1 : t ≡ t' = h.0 in
      let e2 : ss ≡ ss' = k.0 in
      (cc, k.1)

  pub operand_one : {l : Level} {a b b' : List Lexeme} {t t' : Tree} → Operand l a t b → Operand l a t' b' → ends_operand l b ≡ true → ends_operand l b' ≡ true → (t ≡ t') × (b ≡ b')
  operand_one (product p) (product q) s s' = expr_one p q s s'
  operand_one (primary p) (primary q) s s' = primary_one p q

  pub primary_one : {a b b' : List Lexeme} {t t' : Tree} → Primary a t b → Primary a t' b' → (t ≡ t') × (b ≡ b')
  primary_one variable_is variable_is = (refl, refl)
  primary_one integer_is integer_is = (refl, refl)
  primary_one (atom {ts = ts} p) (atom {ts = ts'} q) = let h = arguments_one p q in ((let e : ts ≡ ts' = h.0 in cc), h.1)
  primary_one empty_list empty_list = (refl, refl)
  primary_one empty_list (whole_list p q) = absurd (items_no_close p)
  primary_one (whole_list p q) empty_list = absurd (items_no_close p)
  primary_one (whole_list {ts = ts} {e = e} p q) (whole_list {ts = ts'} {e = e'} p' q') =
      let h = items_one p p' refl (list_end_stops q) (list_end_stops q') in
      let k = list_end_one q q' h.1 in
      ((let x : ts ≡ ts' = h.0 in let y : e ≡ e' = k.0 in cc), k.1)
  primary_one (brackets {b = b} {t = t} p) (brackets {b = b'} {t = t'} p') = let h = expr_one p p' refl refl in (h.0, tail_is _ _ b b' h.1)

  pub arguments_one : {a b b' : List Lexeme} {ts ts' : List Tree} → Arguments a ts b → Arguments a ts' b' → (ts ≡ ts') × (b ≡ b')
  arguments_one (plain x) (plain y) = (refl, refl)
  arguments_one (plain x) (call p) = absurd cc
  arguments_one (call p) (plain x) = absurd cc
  arguments_one (call {b = b} p) (call {b = b'} p') = let h = items_one p p' refl refl refl in (h.0, tail_is _ _ b b' h.1)

  pub list_end_one : {a a' b b' : List Lexeme} {e e' : Tail} → ListEnd a e b → ListEnd a' e' b' → a ≡ a' → (e ≡ e') × (b ≡ b')
  list_end_one (closed {a = a}) (closed {a = a'}) h = (refl, tail_is _ _ a a' h)
  list_end_one closed (bar p) h = absurd cc
  list_end_one (bar p) closed h = absurd cc
  list_end_one (bar {a = a} {b = b} {t = t} p) (bar {a = a'} {b = b'} {t = t'} p') h =
      let k = expr_one p (subst (λ (z : List Lexeme). Expr Sum z t' (Lexeme.Mark kinds.CloseList ∷ b')) (sym (tail_is _ _ a a' h)) p') refl refl in
      ((let x : t ≡ t' = k.0 in cc), tail_is _ _ b b' k.1)

  pub items_one : {a a' b b' : List Lexeme} {ts ts' : List Tree} → Items a ts b → Items a' ts' b' → a ≡ a' → ends_items b ≡ true → ends_items b' ≡ true → (ts ≡ ts') × (b ≡ b')
  items_one {b = b} {b' = b'} (items {t = t} {ts = ts} p q) (items {b = c'} {t = t'} {ts = ts'} p' q') e s s' =
      let h = expr_one p (subst (λ (z : List Lexeme). Expr Sum z t' c') (sym e) p') (others_stop q s) (others_stop q' s') in
      let k = others_one q q' h.1 s s' in
      ((let x : t ≡ t' = h.0 in let y : ts ≡ ts' = k.0 in cc), k.1)

  pub others_one : {a a' b b' : List Lexeme} {ts ts' : List Tree} → Others a ts b → Others a' ts' b' → a ≡ a' → ends_items b ≡ true → ends_items b' ≡ true → (ts ≡ ts') × (b ≡ b')
  others_one no_others no_others e s s' = (refl, e)
  others_one no_others (other {a = a} p q) e s s' = absurd (let h : ends_items (Lexeme.Mark kinds.Comma ∷ a) ≡ true = subst (λ (z : List Lexeme). ends_items z ≡ true) e s in cc)
  others_one (other {a = a} p q) no_others e s s' = absurd (let h : ends_items (Lexeme.Mark kinds.Comma ∷ a) ≡ true = subst (λ (z : List Lexeme). ends_items z ≡ true) (sym e) s' in cc)
  others_one (other {a = a} {t = t} {ts = ts} p q) (other {a = a'} {b = c'} {t = t'} {ts = ts'} p' q') e s s' =
      let h = expr_one p (subst (λ (z : List Lexeme). Expr Sum z t' c') (sym (tail_is _ _ a a' e)) p') (others_stop q s) (others_stop q' s') in
      let k = others_one q q' h.1 s s' in
      ((let x : t ≡ t' = h.0 in let y : ts ≡ ts' = k.0 in cc), k.1)
