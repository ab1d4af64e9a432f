-- What is read is whole: each inline choice has a part, and each part a goal in its body and an operator that is written.
use Rattle.std.proofs.Common.{◌≡◌, ℕ, Bool, true, false, List, [], ◌∷◌, ◌++◌, Option, Some, None, refl, subst}
use Rattle.std.specs.Prelude.{IfSome}
use Rattle.akl_text.specs.declared.token.Kind.{Kind}
use Rattle.akl_text.specs.declared.token.Kind.TheVariants as kinds
use Rattle.akl_terms.specs.declared.program.Op.{Op}
use Rattle.akl_text.specs.declared.token.Token.{Token}
use Rattle.akl_lexemes.specs.declared.lexeme.Lexeme.{Lexeme}
use Rattle.akl_syntax.specs.Goals.{Goal, Goals, Part, GoalIs, Conj, Conjs, PartIs, PartsAre, atom_goal, test, conj, no_conjs, and, unguarded, guarded, no_parts_more, or, inlined, written, kind_guard, guard_of, goals, parts}
use Rattle.akl_syntax.specs.Goals as made
use Rattle.akl_syntax.specs.Clauses.{Clause, Query, IsClause, IsQuery, no_neck, neck, clause, query}
use Rattle.akl_syntax.specs.Verdicts.{Verdict, accepted, refused, Tests, too_deep, out_of_range, not_derived, derived, ReadsClause, ReadsClauses, ReadsProgram, ReadsQuery, ending_at, with_clause}
use Rattle.akl_syntax.specs.Verdicts as verdicts
use Rattle.akl_syntax.proofs.SizeLaws.{IfAccepted, no_query}
use Rattle.clause_keys.specs.Conditions.{IsGuard}
use Rattle.akl_lift.specs.Whole.{HasGoal, AreWhole, HaveGoals, IsRead, AreRead}

-- ---- operators
kind_written : (k : Kind) → IfSome (kind_guard k) IsGuard
kind_written kinds.Name = tt
kind_written kinds.Variable = tt
kind_written kinds.Integer = tt
kind_written kinds.Quoted = tt
kind_written kinds.OpenCall = tt
kind_written kinds.Open = tt
kind_written kinds.Close = tt
kind_written kinds.OpenList = tt
kind_written kinds.CloseList = tt
kind_written kinds.Comma = tt
kind_written kinds.Bar = tt
kind_written kinds.Semicolon = tt
kind_written kinds.Neck = tt
kind_written kinds.Arrow = tt
kind_written kinds.Question = tt
kind_written kinds.Equal = tt
kind_written kinds.Less = tt
kind_written kinds.Greater = tt
kind_written kinds.AtMost = tt
kind_written kinds.AtLeast = tt
kind_written kinds.Same = tt
kind_written kinds.Differs = tt
kind_written kinds.Plus = tt
kind_written kinds.Minus = tt
kind_written kinds.Star = tt
kind_written kinds.Div = tt
kind_written kinds.Is = tt
kind_written kinds.Mod = tt
kind_written kinds.End = tt

if_written : (o : Option Op) {op : Op} → IfSome o IsGuard → o ≡ Some op → IsGuard op
if_written None h e = absurd cc
if_written (Some p) h e = let same : p ≡ _ = cc in subst IsGuard same h

guard_written : (o : Lexeme) {op : Op} → guard_of o ≡ Some op → IsGuard op
guard_written (Lexeme.Mark k) e = if_written (kind_guard k) (kind_written k) e
guard_written (Lexeme.Variable n) e = absurd cc
guard_written (Lexeme.Integer z) e = absurd cc
guard_written (Lexeme.Symbol s) e = absurd cc

-- ---- goals
whole_both : (gs hs : List Goal) → AreWhole (goals gs) → AreWhole (goals hs) → AreWhole (goals (gs ++ hs))
whole_both [] hs a b = b
whole_both (g ∷ gs) hs a b = (a.0, whole_both gs hs a.1 b)

some_first : (gs hs : List Goal) → HasGoal (goals gs) → HasGoal (goals (gs ++ hs))
some_first [] hs h = elim h [ ]
some_first (g ∷ gs) hs h = tt

record HasWhole (p : Part) : Type 0 where
  guard : AreWhole (goals p.guard)
  body : AreWhole (goals p.body)
  some : HasGoal (goals p.body)
  op : IsGuard p.op

record AreSome (gs : List Goal) : Type 0 where
  whole : AreWhole (goals gs)
  some : HasGoal (goals gs)

inlined_whole : (w : Bool) (p : Part) (ps : List Part) → HasWhole p → HaveGoals (parts ps) → AreSome (inlined w p ps)
inlined_whole false p [] h k = record { whole = h.body; some = h.some }
inlined_whole false p (q ∷ ps) h k = record { whole = ((tt, (h.some, h.guard, h.body, k, h.op)), tt); some = tt }
inlined_whole true p [] h k = record { whole = ((tt, (h.some, h.guard, h.body, k, h.op)), tt); some = tt }
inlined_whole true p (q ∷ ps) h k = record { whole = ((tt, (h.some, h.guard, h.body, k, h.op)), tt); some = tt }

written_whole : (p : Part) → HasWhole p → HasWhole (written p)
written_whole p h = record { guard = h.guard; body = h.body; some = h.some; op = h.op }

mutual
  goal_whole : {a b : List Lexeme} {gs : List Goal} → GoalIs a gs b → AreSome gs
  goal_whole (made.collecting e p q r) = record { whole = ((goal_whole q).whole, tt); some = tt }
  goal_whole (atom_goal n p) = record { whole = (tt, tt); some = tt }
  goal_whole (test n p e q) = record { whole = (tt, tt); some = tt }
  goal_whole (made.brackets {p = x} {ps = xs} p q) = inlined_whole x.is_written (written x) xs (written_whole x (part_whole p)) (alternatives_whole q)

  conj_whole : {a b : List Lexeme} {gs : List Goal} → Conj a gs b → AreSome gs
  conj_whole (conj {gs = gs} {hs = hs} p q) = let h = goal_whole p in record { whole = whole_both gs hs h.whole (conjs_whole q); some = some_first gs hs h.some }

  conjs_whole : {a b : List Lexeme} {gs : List Goal} → Conjs a gs b → AreWhole (goals gs)
  conjs_whole no_conjs = tt
  conjs_whole (and {gs = gs} {hs = hs} p q) = let h = goal_whole p in whole_both gs hs h.whole (conjs_whole q)

  part_whole : {a b : List Lexeme} {p : Part} → PartIs a p b → HasWhole p
  part_whole (made.plain p) = let h = conj_whole p in record { guard = tt; body = h.whole; some = h.some; op = tt }
  part_whole (unguarded {o = o} e p) = let h = conj_whole p in record { guard = tt; body = h.whole; some = h.some; op = guard_written o e }
  part_whole (guarded {o = o} p e q) = let g = conj_whole p in let h = conj_whole q in record { guard = g.whole; body = h.whole; some = h.some; op = guard_written o e }

  alternatives_whole : {a b : List Lexeme} {ps : List Part} → PartsAre a ps b → HaveGoals (parts ps)
  alternatives_whole no_parts_more = tt
  alternatives_whole (or p q) = let h = part_whole p in (h.some, h.guard, h.body, alternatives_whole q, h.op)

-- ---- clauses
clause_whole : {start : ℕ} {names : List (List ℕ)} {ls : List Lexeme} {c : Clause} → IsClause start names ls c → IsRead c
clause_whole (clause x no_neck) = record { head = tt; guard = tt; body = tt; op = tt; collected = refl }
clause_whole (clause x (neck p)) = let h = part_whole p in record { head = tt; guard = h.guard; body = h.body; op = h.op; collected = refl }

query_whole : {names : List (List ℕ)} {ls : List Lexeme} {q : Query} → IsQuery names ls q → AreWhole (goals q.goals)
query_whole (query x) = let h = conj_whole x in h.whole

-- ---- verdicts
clause_tests_whole : {bytes : List ℕ} {start : ℕ} {ts : List Token} {v : Verdict Clause} → Tests bytes start (IsClause start) ts v → IfAccepted IsRead v
clause_tests_whole (too_deep e) = tt
clause_tests_whole (out_of_range e f) = tt
clause_tests_whole (not_derived e f l n) = tt
clause_tests_whole (derived e f l d) = clause_whole d

query_tests_whole : {bytes : List ℕ} {start : ℕ} {ts : List Token} {v : Verdict Query} → Tests bytes start IsQuery ts v → IfAccepted (λ q. AreWhole (goals q.goals)) v
query_tests_whole (too_deep e) = tt
query_tests_whole (out_of_range e f) = tt
query_tests_whole (not_derived e f l n) = tt
query_tests_whole (derived e f l d) = query_whole d

ending_whole : (at : ℕ) (v : Verdict Clause) → IfAccepted IsRead v → IfAccepted (λ x. IsRead x.0) (ending_at at v)
ending_whole at (accepted c) h = h
ending_whole at (refused e) h = tt

clause_read_whole : {bytes : List ℕ} {start : ℕ} {v : Verdict (Clause × ℕ)} → ReadsClause bytes start v → IfAccepted (λ x. IsRead x.0) v
clause_read_whole (verdicts.no_token r) = tt
clause_read_whole (verdicts.no_end r n) = tt
clause_read_whole (verdicts.ended last {v = v} r k t) = ending_whole last.end v (clause_tests_whole t)

one_more_whole : (c : Clause) (v : Verdict (List Clause)) → IsRead c → IfAccepted AreRead v → IfAccepted AreRead (with_clause c v)
one_more_whole c (accepted cs) h k = (h, k)
one_more_whole c (refused e) h k = tt

clauses_read_whole : {bytes : List ℕ} {from : ℕ} {v : Verdict (List Clause)} → ReadsClauses bytes from v → IfAccepted AreRead v
clauses_read_whole (verdicts.ended s) = tt
clauses_read_whole (verdicts.refuses s l r) = tt
clauses_read_whole (verdicts.clause {c = c} {v = v} s l r p) = one_more_whole c v (clause_read_whole r) (clauses_read_whole p)

-- the clauses of a text, and the goals of a query's
pub program_whole : {bytes : List ℕ} {v : Verdict (List Clause)} → ReadsProgram bytes v → IfAccepted AreRead v
program_whole (verdicts.too_long l) = tt
program_whole (verdicts.clauses l r) = clauses_read_whole r

pub query_text_whole : {bytes : List ℕ} {v : Verdict Query} → ReadsQuery bytes v → IfAccepted (λ q. AreWhole (goals q.goals)) v
query_text_whole (verdicts.no_token s r) = tt
query_text_whole (verdicts.open_ended s r n t) = query_tests_whole t
query_text_whole (verdicts.ended last s r k l t) = query_tests_whole t
query_text_whole (verdicts.goes_on last s r k l m t) = no_query (λ q. AreWhole (goals q.goals)) t
