-- What a loop has read so far.
use Rattle.std.proofs.Common.{◌≡◌, ℕ, ◌<◌, ◌≤◌, true, List, [], ◌∷◌, ◌++◌, length, Some, sym, subst, arith, append_assoc}
use Rattle.std.proofs.lemmas.List.{append-nil}
use Rattle.akl_lexemes.specs.declared.lexeme.Lexeme.{Lexeme}
use Rattle.akl_text.specs.declared.token.Kind.TheVariants as kinds
use Rattle.term_syntax.specs.declared.level.Level.{Level}
use Rattle.term_syntax.specs.declared.level.Level.TheVariants.{Sum}
use Rattle.term_syntax.specs.Tree.{Tree, Step}
use Rattle.term_syntax.specs.Grammar.{operator_of, Expr, More, Operand, Items, Others, done, next, items, no_others, other}
use Rattle.term_syntax.specs.Ends.{ends_chain, ends_items, ends_operand}
use Rattle.term_syntax.proofs.Unique.{operand_one, expr_one, more_stops, others_stop, operator_goes_on, operand_takes, expr_takes}

pub record MoreSoFar (l : Level) (start : List Lexeme) (found : List Step) (rest : List Lexeme) : Type 0 where
  pub onward : (ss : List Step) (b : List Lexeme) → More l rest ss b → More l start (found ++ ss) b
  pub back : (ss : List Step) (b : List Lexeme) → More l start ss b → ends_chain l b ≡ true → (others : List Step) × More l rest others b
  pub within : length rest ≤ length start
  pub edge : ends_operand l rest ≡ true

pub more_start : (l : Level) (a : List Lexeme) → ends_operand l a ≡ true → MoreSoFar l a [] a
more_start l a s = record { onward = λ ss b p. p; back = λ ss b p s'. (ss, p); within = omega arith; edge = s }

-- the rest of a run whose first operand is known
more_behind : {l : Level} {o : Lexeme} {a b c : List Lexeme} {w : List ℕ} {t : Tree} {ss : List Step} → operator_of l o ≡ Some w → Operand l a t b → ends_operand l b ≡ true
    → More l (o ∷ a) ss c → ends_chain l c ≡ true → (others : List Step) × More l b others c
more_behind {l} {o} {a} {w = w} e p s done s' = absurd (operator_goes_on l o a w e s')
more_behind {l} {c = c} e p s (next {b = b'} {ss = ss} e' p' m) s' =
    (ss, subst (λ (z : List Lexeme). More l z ss c) (sym (operand_one p p' s (more_stops m s')).1) m)

pub more_step : {l : Level} {start : List Lexeme} {found : List Step} {o : Lexeme} {a b : List Lexeme} {w : List ℕ} {t : Tree}
    → MoreSoFar l start found (o ∷ a) → operator_of l o ≡ Some w → Operand l a t b → ends_operand l b ≡ true → MoreSoFar l start (found ++ record { symbol = w; right = t } ∷ []) b
more_step {l} {start} {found} {w = w} {t = t} h e p s = record {
  onward = λ ss b m. rw append_assoc (h.onward (record { symbol = w; right = t } ∷ ss) b (next e p m));
  back = λ ss b m s'. (let k = h.back ss b m s' in more_behind e p s k.1 s');
  within = omega (arith, h.within, operand_takes p);
  edge = s;
}

pub more_end : {l : Level} {start : List Lexeme} {found : List Step} {rest : List Lexeme} → MoreSoFar l start found rest → More l start found rest
more_end {l} {start} {found} {rest} h = subst (λ (z : List Step). More l start z rest) (append-nil found) (h.onward [] rest done)

more_not : {l : Level} {o : Lexeme} {a b : List Lexeme} {w : List ℕ} {ss : List Step} → operator_of l o ≡ Some w → ((t : Tree) (c : List Lexeme) → Operand l a t c → ends_operand l c ≡ true → ⊥)
    → More l (o ∷ a) ss b → ends_chain l b ≡ true → ⊥
more_not {l} {o} {a} {w = w} e none done s = operator_goes_on l o a w e s
more_not e none (next e' p m) s = none _ _ p (more_stops m s)

pub more_none : {l : Level} {start : List Lexeme} {found : List Step} {o : Lexeme} {a : List Lexeme} {w : List ℕ} → MoreSoFar l start found (o ∷ a) → operator_of l o ≡ Some w
    → ((t : Tree) (b : List Lexeme) → Operand l a t b → ends_operand l b ≡ true → ⊥) → (ss : List Step) (b : List Lexeme) → More l start ss b → ends_chain l b ≡ true → ⊥
more_none h e none ss b m s = (let k = h.back ss b m s in more_not e none k.1 s)

pub record ItemsSoFar (start : List Lexeme) (found : List Tree) (rest : List Lexeme) : Type 0 where
  pub onward : (ts : List Tree) (b : List Lexeme) → Others rest ts b → Items start (found ++ ts) b
  pub back : (ts : List Tree) (b : List Lexeme) → Items start ts b → ends_items b ≡ true → (others : List Tree) × Others rest others b
  pub within : length rest < length start
  pub edge : ends_chain Sum rest ≡ true

items_behind : {a b c : List Lexeme} {t : Tree} {ts : List Tree} → Expr Sum a t b → ends_chain Sum b ≡ true → Items a ts c → ends_items c ≡ true → (others : List Tree) × Others b others c
items_behind {c = c} p s (items {ts = ts} p' q) s' = (ts, subst (λ (z : List Lexeme). Others z ts c) (sym (expr_one p p' s (others_stop q s')).1) q)

pub items_start : {a b : List Lexeme} {t : Tree} → Expr Sum a t b → ends_chain Sum b ≡ true → ItemsSoFar a (t ∷ []) b
items_start p s = record {
  onward = λ ts b q. items p q;
  back = λ ts b q s'. items_behind p s q s';
  within = expr_takes p;
  edge = s;
}

others_behind : {a b c : List Lexeme} {t : Tree} {ts : List Tree} → Expr Sum a t b → ends_chain Sum b ≡ true → Others (Lexeme.Mark kinds.Comma ∷ a) ts c → ends_items c ≡ true
    → (others : List Tree) × Others b others c
others_behind p s no_others s' = absurd cc
others_behind {c = c} p s (other {ts = ts} p' q) s' = (ts, subst (λ (z : List Lexeme). Others z ts c) (sym (expr_one p p' s (others_stop q s')).1) q)

pub items_step : {start a b : List Lexeme} {found : List Tree} {t : Tree} → ItemsSoFar start found (Lexeme.Mark kinds.Comma ∷ a) → Expr Sum a t b → ends_chain Sum b ≡ true → ItemsSoFar start (found ++ t ∷ []) b
items_step {start} {found = found} {t = t} h p s = record {
  onward = λ ts b q. rw append_assoc (h.onward (t ∷ ts) b (other p q));
  back = λ ts b q s'. (let k = h.back ts b q s' in others_behind p s k.1 s');
  within = omega (arith, h.within, expr_takes p);
  edge = s;
}

pub items_end : {start rest : List Lexeme} {found : List Tree} → ItemsSoFar start found rest → Items start found rest
items_end {start} {rest} {found} h = subst (λ (z : List Tree). Items start z rest) (append-nil found) (h.onward [] rest no_others)

others_not : {a b : List Lexeme} {ts : List Tree} → ((t : Tree) (c : List Lexeme) → Expr Sum a t c → ends_chain Sum c ≡ true → ⊥) → Others (Lexeme.Mark kinds.Comma ∷ a) ts b → ends_items b ≡ true → ⊥
others_not none no_others s = absurd cc
others_not none (other p q) s = none _ _ p (others_stop q s)

pub items_none : {start a : List Lexeme} {found : List Tree} → ItemsSoFar start found (Lexeme.Mark kinds.Comma ∷ a) → ((t : Tree) (b : List Lexeme) → Expr Sum a t b → ends_chain Sum b ≡ true → ⊥)
    → (ts : List Tree) (b : List Lexeme) → Items start ts b → ends_items b ≡ true → ⊥
items_none h none ts b m s = (let k = h.back ts b m s in others_not none k.1 s)
