-- Clauses of a list, one by one.
use Rattle.std.proofs.Common.{◌≡◌, ℕ, ◌+◌, ◌<◌, ◌≤◌, List, [], ◌∷◌, ◌++◌, length, map, take, drop, set, get_or, refl, sym, ap, subst, ◌∙◌, arith, append_assoc}
use Rattle.std.proofs.lemmas.List.{append-nil, take_all, drop_all, map_push, take_more_set, drop-set-lt}
use Rattle.akl_syntax.specs.Answers.{clause_view}
use Rattle.akl_syntax.specs.Clauses.{Clause}
use Rattle.akl_syntax.specs.Variables.{IsClauseNumbered, AreClausesNumbered}
use Rattle.akl_syntax.specs.declared.source.SourceClause.{SourceClause}
use Rattle.variable_scopes.specs.Scoped.{IsScopedClause, AreScoped}
use Rattle.variable_scopes.proofs.Turns.{one_dropped}

-- the front is scoped, and the rest is as it was
pub record ClausesGoing (old front rest : List Clause) : Type 0 where
  pub before : List Clause
  pub old_is : old ≡ before ++ rest
  pub scoped : AreScoped before front
  pub numbered : AreClausesNumbered rest

scoped_push : (cs ds : List Clause) (c d : Clause) → AreScoped cs ds → IsScopedClause c d → AreScoped (cs ++ c ∷ []) (ds ++ d ∷ [])
scoped_push [] [] c d a i = (i, tt)
scoped_push [] (e ∷ ds) c d a i = absurd a
scoped_push (e ∷ cs) [] c d a i = absurd a
scoped_push (e ∷ cs) (f ∷ ds) c d a i = (a.0, scoped_push cs ds c d a.1 i)

pub clauses_start : (cs : List Clause) → AreClausesNumbered cs → ClausesGoing cs [] cs
clauses_start cs n = record { before = []; old_is = refl; scoped = tt; numbered = n }

one_clause : {old front rest : List Clause} (c d : Clause) → IsScopedClause c d → ClausesGoing old front (c ∷ rest) → ClausesGoing old (front ++ d ∷ []) rest
one_clause {rest = rest} c d i g = record {
  before = g.before ++ c ∷ [];
  old_is = g.old_is ∙ one_by_one g.before c rest;
  scoped = scoped_push g.before _ c d g.scoped i;
  numbered = g.numbered.1;
}
  where
    one_by_one : (xs : List Clause) (x : Clause) (ys : List Clause) → xs ++ x ∷ ys ≡ (xs ++ x ∷ []) ++ ys
    one_by_one xs x ys = rw append_assoc refl

pub clauses_room : {old front : List Clause} (xs : List SourceClause) (i : ℕ) (x : SourceClause) → i < length xs → x ≡ get_or xs i x → ClausesGoing old front (map clause_view (drop i xs)) → IsClauseNumbered (clause_view x)
clauses_room {old} {front} xs i x h e g = (subst (λ (z : List SourceClause). ClausesGoing old front (map clause_view z)) (one_dropped xs i x h e) g).numbered.0

pub clauses_turn : {old : List Clause} (xs : List SourceClause) (i : ℕ) (x y : SourceClause) → i < length xs → x ≡ get_or xs i x → IsScopedClause (clause_view x) (clause_view y) → ClausesGoing old (map clause_view (take i xs)) (map clause_view (drop i xs))
    → ClausesGoing old (map clause_view (take (i + 1) (set xs i y))) (map clause_view (drop (i + 1) (set xs i y)))
clauses_turn {old} xs i x y h e s g =
    let onward : i < i + 1 = omega arith in
    rw (take_more_set xs i y h, drop-set-lt (i + 1) xs i y onward, map_push clause_view (take i xs) y)
    (one_clause (clause_view x) (clause_view y) s (subst (λ (z : List SourceClause). ClausesGoing old (map clause_view (take i xs)) (map clause_view z)) (one_dropped xs i x h e) g))

pub clauses_end : {old : List Clause} (xs : List SourceClause) (i : ℕ) → length xs ≤ i → ClausesGoing old (map clause_view (take i xs)) (map clause_view (drop i xs)) → AreScoped old (map clause_view xs)
clauses_end {old} xs i h g =
    let none : map clause_view (drop i xs) ≡ [] = ap (map clause_view) (drop_all i xs h) in
    let all : map clause_view (take i xs) ≡ map clause_view xs = ap (map clause_view) (take_all i xs h) in
    let whole : old ≡ g.before = g.old_is ∙ ap (λ (z : List Clause). g.before ++ z) none ∙ append-nil g.before in
    subst (λ (z : List Clause). AreScoped z (map clause_view xs)) (sym whole) (subst (AreScoped g.before) all g.scoped)
