-- A text has at most as many terms, goals and clauses together as bytes.
use Rattle.std.proofs.Common.{◌≡◌, ℕ, suc, ◌+◌, ◌≤◌, Bool, true, false, List, [], ◌∷◌, ◌++◌, length, drop, refl, ap, arith}
use Rattle.std.proofs.lemmas.List.{length-append, length-drop}
use Rattle.akl_text.specs.declared.token.Token.{Token}
use Rattle.akl_lexemes.specs.declared.lexeme.Lexeme.{Lexeme}
use Rattle.term_syntax.proofs.SizeLaws.{expr_size, arguments_size}
use Rattle.akl_syntax.specs.Goals.{Goal, Part, GoalIs, Conj, Conjs, PartIs, PartsAre, collecting, atom_goal, test, conj, no_conjs, and, unguarded, guarded, no_parts_more, or, inlined, written, goals, parts}
use Rattle.akl_syntax.specs.Goals as made
use Rattle.akl_syntax.specs.Clauses.{Clause, Query, HasPart, IsClause, IsQuery, no_neck, neck, clause, query}
use Rattle.akl_lexemes.specs.Lexemes.{Lexemes}
use Rattle.akl_lexemes.specs.Lexemes as lexed
use Rattle.akl_syntax.specs.Sizes.{goals_size, parts_size, clause_size, clauses_size, query_size}
use Rattle.akl_syntax.specs.Verdicts.{Verdict, accepted, refused, Tests, too_deep, out_of_range, not_derived, derived, ReadsClause, ReadsClauses, ReadsProgram, ReadsQuery, ending_at, with_clause}
use Rattle.akl_syntax.specs.Verdicts as verdicts
use Rattle.std.specs.Prelude.{Result, Ok, Err, IfOk}
use Rattle.akl_syntax.specs.Answers.{Answers, query_view}
use Rattle.akl_lexemes.specs.declared.error.SyntaxError.{SyntaxError}
use Rattle.akl_syntax.specs.declared.source.SourceQuery.{SourceQuery}
use Rattle.akl_text.proofs.LayoutSkips.{skips_after}
use Rattle.akl_text.proofs.TokenBounds.{AreBound, are_bound, last_behind_all}

goals_both : (gs hs : List Goal) → goals_size (goals (gs ++ hs)) ≡ goals_size (goals gs) + goals_size (goals hs)
goals_both [] hs = omega arith
goals_both (g ∷ gs) hs = omega (arith, goals_both gs hs)

inlined_size : (w : Bool) (p : Part) (ps : List Part) → goals_size (goals (inlined w p ps)) ≤ suc (parts_size (parts (p ∷ ps)))
inlined_size false p [] = omega arith
inlined_size false p (q ∷ ps) = omega arith
inlined_size true p [] = omega arith
inlined_size true p (q ∷ ps) = omega arith

mutual
  one_goal_size : {a b : List Lexeme} {gs : List Goal} → GoalIs a gs b → goals_size (goals gs) + length b ≤ length a
  one_goal_size (collecting w p g q) = omega (arith, expr_size p, one_goal_size g, expr_size q)
  one_goal_size (atom_goal n p) = omega (arith, arguments_size p)
  one_goal_size (test n p e q) = omega (arith, expr_size p, expr_size q)
  one_goal_size (made.brackets {p = x} {ps = xs} p q) = omega (arith, inlined_size x.is_written (written x) xs, part_size p, alternatives_size q)

  conj_size : {a b : List Lexeme} {gs : List Goal} → Conj a gs b → goals_size (goals gs) + length b ≤ length a
  conj_size (conj {gs = gs} {hs = hs} p q) = omega (arith, goals_both gs hs, one_goal_size p, conjs_size q)

  conjs_size : {a b : List Lexeme} {gs : List Goal} → Conjs a gs b → goals_size (goals gs) + length b ≤ length a
  conjs_size no_conjs = omega arith
  conjs_size (and {gs = gs} {hs = hs} p q) = omega (arith, goals_both gs hs, one_goal_size p, conjs_size q)

  part_size : {a b : List Lexeme} {p : Part} → PartIs a p b → (goals_size (goals p.guard) + goals_size (goals p.body)) + length b ≤ length a
  part_size (made.plain p) = omega (arith, conj_size p)
  part_size (unguarded e p) = omega (arith, conj_size p)
  part_size (guarded p e q) = omega (arith, conj_size p, conj_size q)

  alternatives_size : {a b : List Lexeme} {ps : List Part} → PartsAre a ps b → parts_size (parts ps) + length b ≤ length a
  alternatives_size no_parts_more = omega arith
  alternatives_size (or p q) = omega (arith, part_size p, alternatives_size q)

has_part_size : {a : List Lexeme} {p : Part} → HasPart a p → goals_size (goals p.guard) + goals_size (goals p.body) ≤ length a
has_part_size no_neck = omega arith
has_part_size (neck p) = omega (arith, part_size p)

one_clause_size : {start : ℕ} {names : List (List ℕ)} {ls : List Lexeme} {c : Clause} → IsClause start names ls c → clause_size c ≤ length ls
one_clause_size (clause x y) = omega (arith, arguments_size x, has_part_size y)

one_query_size : {names : List (List ℕ)} {ls : List Lexeme} {q : Query} → IsQuery names ls q → query_size q ≤ length ls
one_query_size (query x) = omega (arith, conj_size x)

as_many : {bytes : List ℕ} {names all : List (List ℕ)} {ts : List Token} {ls : List Lexeme} → Lexemes bytes names ts ls all → length ls ≡ length ts
as_many lexed.nothing = refl
as_many (lexed.next s r) = ap suc (as_many r)

-- ---- verdicts
abbrev pub IfAccepted : {A : Type 0} → (A → Type 0) → Verdict A → Type 0
IfAccepted P (accepted x) = P x
IfAccepted P (refused e) = Unit {0}

clause_tests_size : {bytes : List ℕ} {start : ℕ} {ts : List Token} {v : Verdict Clause} → Tests bytes start (IsClause start) ts v → IfAccepted (λ c. clause_size c ≤ length ts) v
clause_tests_size (too_deep e) = tt
clause_tests_size (out_of_range e f) = tt
clause_tests_size (not_derived e f l n) = tt
clause_tests_size (derived e f l d) = omega (arith, as_many l, one_clause_size d)

query_tests_size : {bytes : List ℕ} {start : ℕ} {ts : List Token} {v : Verdict Query} → Tests bytes start IsQuery ts v → IfAccepted (λ q. query_size q ≤ length ts) v
query_tests_size (too_deep e) = tt
query_tests_size (out_of_range e f) = tt
query_tests_size (not_derived e f l n) = tt
query_tests_size (derived e f l d) = omega (arith, as_many l, one_query_size d)

ending_size : (start at most : ℕ) (v : Verdict Clause) → start + most ≤ at → IfAccepted (λ c. clause_size c ≤ most) v → IfAccepted (λ x. start + clause_size x.0 ≤ x.1) (ending_at at v)
ending_size start at most (accepted c) h k = omega (arith, h, k)
ending_size start at most (refused e) h k = tt

clause_read_size : {bytes : List ℕ} {start : ℕ} {v : Verdict (Clause × ℕ)} → ReadsClause bytes start v → IfAccepted (λ x. start + clause_size x.0 ≤ x.1) v
clause_read_size (verdicts.no_token r) = tt
clause_read_size (verdicts.no_end r n) = tt
clause_read_size {bytes} {start} (verdicts.ended {ts = ts} last {v = v} r k t) =
    let b : AreBound start (length (drop start bytes)) (ts ++ last ∷ []) = are_bound r in
    ending_size start last.end (length ts) v (omega (arith, last_behind_all start ts last b.ends)) (clause_tests_size t)

more_size_of : (from start end most : ℕ) (c : Clause) (v : Verdict (List Clause)) → from ≤ start → start + clause_size c ≤ end → IfAccepted (λ cs. end + clauses_size cs ≤ most) v → IfAccepted (λ cs. from + clauses_size cs ≤ most) (with_clause c v)
more_size_of from start end most c (accepted cs) h k l = omega (arith, h, k, l)
more_size_of from start end most c (refused e) h k l = tt

clauses_read_size : {bytes : List ℕ} {from : ℕ} {v : Verdict (List Clause)} → ReadsClauses bytes from v → IfAccepted (λ cs. from + clauses_size cs ≤ length bytes) v
clauses_read_size (verdicts.ended s) = omega (arith, skips_after s)
clauses_read_size (verdicts.refuses s l r) = tt
clauses_read_size {bytes} {from} (verdicts.clause {start = start} {end = end} {c = c} {v = v} s l r p) =
    more_size_of from start end (length bytes) c v (skips_after s) (clause_read_size r) (clauses_read_size p)

pub program_size : {bytes : List ℕ} {v : Verdict (List Clause)} → ReadsProgram bytes v → IfAccepted (λ cs. clauses_size cs ≤ length bytes) v
program_size (verdicts.too_long l) = tt
program_size {bytes} {v} (verdicts.clauses l r) = from_start v (clauses_read_size r)
  where
    from_start : (v : Verdict (List Clause)) → IfAccepted (λ cs. 0 + clauses_size cs ≤ length bytes) v → IfAccepted (λ cs. clauses_size cs ≤ length bytes) v
    from_start (accepted cs) h = omega (arith, h)
    from_start (refused e) h = tt

less_query : (m n : ℕ) (v : Verdict Query) → m ≤ n → IfAccepted (λ q. query_size q ≤ m) v → IfAccepted (λ q. query_size q ≤ n) v
less_query m n (accepted q) h k = omega (arith, h, k)
less_query m n (refused e) h k = tt

pub no_query : {bytes : List ℕ} {start : ℕ} {ts : List Token} {v : Verdict Query} (P : Query → Type 0) → Tests bytes start (λ names ls q. ⊥) ts v → IfAccepted P v
no_query P (too_deep e) = tt
no_query P (out_of_range e f) = tt
no_query P (not_derived e f l n) = tt
no_query P (derived e f l d) = absurd d

pub query_text_size : {bytes : List ℕ} {v : Verdict Query} → ReadsQuery bytes v → IfAccepted (λ q. query_size q ≤ length bytes) v
query_text_size (verdicts.no_token s r) = tt
query_text_size {bytes} {v} (verdicts.open_ended {start = start} {ts = ts} s r n t) =
    let b : AreBound start (length (drop start bytes)) ts = are_bound r in
    less_query (length ts) (length bytes) v (omega (arith, b.count, length-drop start bytes)) (query_tests_size t)
query_text_size {bytes} {v} (verdicts.ended {start = start} {ts = ts} last s r k l t) =
    let b : AreBound start (length (drop start bytes)) (ts ++ last ∷ []) = are_bound r in
    less_query (length ts) (length bytes) v (omega (arith, b.count, length-drop start bytes, length-append ts (last ∷ []))) (query_tests_size t)
query_text_size {bytes} (verdicts.goes_on last s r k l m t) = no_query (λ q. query_size q ≤ length bytes) t

pub answered_size : (bytes : List ℕ) (r : Result SourceQuery SyntaxError) → Answers query_view (ReadsQuery bytes) r → IfOk r (λ q. query_size (query_view q) ≤ length bytes)
answered_size bytes (Ok x) h = query_text_size h
answered_size bytes (Err e) h = tt
