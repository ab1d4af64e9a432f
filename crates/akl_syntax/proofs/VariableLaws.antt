-- The variables that occur in what is derived are those of the lexemes, which are numbered from 0 without a gap.
use Rattle.std.proofs.Common.{◌≡◌, ℕ, Bool, true, false, List, [], ◌∷◌, ◌++◌, Some, refl, sym, ap, ◌∙◌, append_assoc}
use Rattle.std.proofs.lemmas.List.{append-nil}
use Rattle.std.specs.Prelude.{Result, Ok, Err, IfOk}
use Rattle.akl_text.specs.declared.token.Token.{Token}
use Rattle.akl_lexemes.specs.declared.lexeme.Lexeme.{Lexeme}
use Rattle.akl_lexemes.specs.declared.lexeme.Lexeme.TheVariants.{Symbol, Variable, Integer, Mark}
use Rattle.term_syntax.specs.Tree.{trees}
use Rattle.akl_terms.specs.declared.program.Op.{Op}
use Rattle.akl_lexemes.proofs.NumberedLexemes.{lexeme_variables, numbered, are_numbered}
use Rattle.term_syntax.proofs.VariableLaws.{expr_variables, arguments_variables, joined}
use Rattle.akl_syntax.specs.Goals.{Goal, Part, GoalIs, Conj, Conjs, PartIs, PartsAre, collecting, atom_goal, test, conj, no_conjs, and, unguarded, guarded, no_parts_more, or, inlined, written, goals, parts, relation_of, guard_of}
use Rattle.akl_syntax.specs.Goals as made
use Rattle.akl_syntax.specs.Clauses.{Clause, Query, HasPart, IsClause, IsQuery, no_neck, neck, clause, query}
use Rattle.akl_syntax.specs.Variables.{goal_variables, goals_variables, parts_variables, clause_variables, query_variables, IsClauseNumbered, AreClausesNumbered, IsQueryNumbered}
use Rattle.term_syntax.specs.Variables.{tree_variables, trees_variables}
use Rattle.akl_syntax.specs.Answers.{Answers, query_view}
use Rattle.akl_syntax.specs.Verdicts.{Verdict, accepted, refused, Tests, too_deep, out_of_range, not_derived, derived, ReadsClause, ReadsClauses, ReadsProgram, ReadsQuery, ending_at, with_clause}
use Rattle.akl_syntax.specs.Verdicts as verdicts
use Rattle.akl_lexemes.specs.declared.error.SyntaxError.{SyntaxError}
use Rattle.akl_syntax.specs.declared.source.SourceQuery.{SourceQuery}
use Rattle.akl_syntax.proofs.SizeLaws.{IfAccepted, no_query}

-- ---- goals
goals_both_variables : (gs hs : List Goal) → goals_variables (goals (gs ++ hs)) ≡ goals_variables (goals gs) ++ goals_variables (goals hs)
goals_both_variables [] hs = refl
goals_both_variables (g ∷ gs) hs = ap (λ (z : List ℕ). goal_variables g ++ z) (goals_both_variables gs hs) ∙ sym (append_assoc (goal_variables g) (goals_variables (goals gs)) (goals_variables (goals hs)))

plain_guard : {a b : List Lexeme} {p : Part} → PartIs a p b → p.is_written ≡ false → p.guard ≡ []
plain_guard (made.plain p) e = refl
plain_guard (unguarded x p) e = refl
plain_guard (guarded p x q) e = absurd cc

inlined_variables : (w : Bool) (p : Part) (ps : List Part) → (w ≡ false → p.guard ≡ []) → goals_variables (goals (inlined w p ps)) ≡ parts_variables (parts (p ∷ ps))
inlined_variables false p [] h = rw (h refl) (sym (append-nil (goals_variables (goals p.body))))
inlined_variables false p (q ∷ ps) h = append-nil _
inlined_variables true p [] h = append-nil _
inlined_variables true p (q ∷ ps) h = append-nil _

relation_variables : (o : Lexeme) (a : List Lexeme) (w : List ℕ) → relation_of o ≡ Some w → lexeme_variables (o ∷ a) ≡ lexeme_variables a
relation_variables (Mark k) a w e = refl
relation_variables (Symbol s) a w e = refl
relation_variables (Integer z) a w e = refl
relation_variables (Variable n) a w e = absurd cc

guard_variables : (o : Lexeme) (a : List Lexeme) (op : Op) → guard_of o ≡ Some op → lexeme_variables (o ∷ a) ≡ lexeme_variables a
guard_variables (Mark k) a w e = refl
guard_variables (Symbol s) a w e = refl
guard_variables (Integer z) a w e = refl
guard_variables (Variable n) a w e = absurd cc

with_nil : {a : List ℕ} (x b : List ℕ) → a ≡ x ++ b → a ≡ (x ++ []) ++ b
with_nil x b e = e ∙ ap (λ (z : List ℕ). z ++ b) (sym (append-nil x))

mutual
  one_goal_variables : {a b : List Lexeme} {gs : List Goal} → GoalIs a gs b → lexeme_variables a ≡ goals_variables (goals gs) ++ lexeme_variables b
  one_goal_variables (collecting {d = d} {t = t} {u = u} {gs = gs} w p g q) =
      let inside = joined (goals_variables (goals gs)) (tree_variables u) (lexeme_variables d) (one_goal_variables g) (expr_variables q) in
      let whole = joined (tree_variables t) (goals_variables (goals gs) ++ tree_variables u) (lexeme_variables d) (expr_variables p) inside in
      with_nil (tree_variables t ++ (goals_variables (goals gs) ++ tree_variables u)) (lexeme_variables d) whole
  one_goal_variables {b = b} (atom_goal {ts = ts} n p) = with_nil (trees_variables (trees ts)) (lexeme_variables b) (arguments_variables p)
  one_goal_variables (test {o = o} {b = b} {c = c} {w = w} {t = t} {u = u} n p e q) =
      let right = with_nil (tree_variables u) (lexeme_variables c) (expr_variables q) in
      let both = joined (tree_variables t) (tree_variables u ++ []) (lexeme_variables c) (expr_variables p) (relation_variables o b w e ∙ right) in
      with_nil (tree_variables t ++ (tree_variables u ++ [])) (lexeme_variables c) both
  one_goal_variables (made.brackets {c = c} {p = x} {ps = xs} p q) =
      joined _ _ _ (part_variables p) (alternatives_variables q) ∙ ap (λ (z : List ℕ). z ++ lexeme_variables c) (sym (inlined_variables x.is_written (written x) xs (plain_guard p)))

  conj_variables : {a b : List Lexeme} {gs : List Goal} → Conj a gs b → lexeme_variables a ≡ goals_variables (goals gs) ++ lexeme_variables b
  conj_variables {b = b} (conj {gs = gs} {hs = hs} p q) = joined _ _ _ (one_goal_variables p) (conjs_variables q) ∙ ap (λ (z : List ℕ). z ++ lexeme_variables b) (sym (goals_both_variables gs hs))

  conjs_variables : {a b : List Lexeme} {gs : List Goal} → Conjs a gs b → lexeme_variables a ≡ goals_variables (goals gs) ++ lexeme_variables b
  conjs_variables no_conjs = refl
  conjs_variables {b = b} (and {gs = gs} {hs = hs} p q) = joined _ _ _ (one_goal_variables p) (conjs_variables q) ∙ ap (λ (z : List ℕ). z ++ lexeme_variables b) (sym (goals_both_variables gs hs))

  part_variables : {a b : List Lexeme} {p : Part} → PartIs a p b → lexeme_variables a ≡ (goals_variables (goals p.guard) ++ goals_variables (goals p.body)) ++ lexeme_variables b
  part_variables (made.plain p) = conj_variables p
  part_variables (unguarded {o = o} {a = a} {op = op} e p) = guard_variables o a op e ∙ conj_variables p
  part_variables (guarded {o = o} {b = b} {op = op} p e q) = joined _ _ _ (conj_variables p) (guard_variables o b op e ∙ conj_variables q)

  alternatives_variables : {a b : List Lexeme} {ps : List Part} → PartsAre a ps b → lexeme_variables a ≡ parts_variables (parts ps) ++ lexeme_variables b
  alternatives_variables no_parts_more = refl
  alternatives_variables (or p q) = joined _ _ _ (part_variables p) (alternatives_variables q)

has_part_variables : {a : List Lexeme} {p : Part} → HasPart a p → lexeme_variables a ≡ goals_variables (goals p.guard) ++ goals_variables (goals p.body)
has_part_variables no_neck = refl
has_part_variables (neck p) = part_variables p ∙ append-nil _

one_clause_variables : {start : ℕ} {names : List (List ℕ)} {ls : List Lexeme} {c : Clause} → IsClause start names ls c → lexeme_variables ls ≡ clause_variables c
one_clause_variables (clause {ts = ts} x y) = arguments_variables x ∙ ap (λ (z : List ℕ). trees_variables (trees ts) ++ z) (has_part_variables y)

one_query_variables : {names : List (List ℕ)} {ls : List Lexeme} {q : Query} → IsQuery names ls q → lexeme_variables ls ≡ query_variables q
one_query_variables (query x) = conj_variables x ∙ append-nil _

-- ---- verdicts
clause_names : {start : ℕ} {names : List (List ℕ)} {ls : List Lexeme} {c : Clause} → IsClause start names ls c → c.names ≡ names
clause_names (clause x y) = refl

query_names : {names : List (List ℕ)} {ls : List Lexeme} {q : Query} → IsQuery names ls q → q.names ≡ names
query_names (query x) = refl

clause_tests_numbered : {bytes : List ℕ} {start : ℕ} {ts : List Token} {v : Verdict Clause} → Tests bytes start (IsClause start) ts v → IfAccepted IsClauseNumbered v
clause_tests_numbered (too_deep e) = tt
clause_tests_numbered (out_of_range e f) = tt
clause_tests_numbered (not_derived e f l n) = tt
clause_tests_numbered (derived {x = c} e f l d) = rw (clause_names d) (are_numbered (clause_variables c) (numbered l) (one_clause_variables d))

query_tests_numbered : {bytes : List ℕ} {start : ℕ} {ts : List Token} {v : Verdict Query} → Tests bytes start IsQuery ts v → IfAccepted IsQueryNumbered v
query_tests_numbered (too_deep e) = tt
query_tests_numbered (out_of_range e f) = tt
query_tests_numbered (not_derived e f l n) = tt
query_tests_numbered (derived {x = q} e f l d) = rw (query_names d) (are_numbered (query_variables q) (numbered l) (one_query_variables d))

ending_numbered : (at : ℕ) (v : Verdict Clause) → IfAccepted IsClauseNumbered v → IfAccepted (λ x. IsClauseNumbered x.0) (ending_at at v)
ending_numbered at (accepted c) h = h
ending_numbered at (refused e) h = tt

clause_read_numbered : {bytes : List ℕ} {start : ℕ} {v : Verdict (Clause × ℕ)} → ReadsClause bytes start v → IfAccepted (λ x. IsClauseNumbered x.0) v
clause_read_numbered (verdicts.no_token r) = tt
clause_read_numbered (verdicts.no_end r n) = tt
clause_read_numbered (verdicts.ended last {v = v} r k t) = ending_numbered last.end v (clause_tests_numbered t)

one_more_numbered : (c : Clause) (v : Verdict (List Clause)) → IsClauseNumbered c → IfAccepted AreClausesNumbered v → IfAccepted AreClausesNumbered (with_clause c v)
one_more_numbered c (accepted cs) h k = (h, k)
one_more_numbered c (refused e) h k = tt

clauses_read_numbered : {bytes : List ℕ} {from : ℕ} {v : Verdict (List Clause)} → ReadsClauses bytes from v → IfAccepted AreClausesNumbered v
clauses_read_numbered (verdicts.ended s) = tt
clauses_read_numbered (verdicts.refuses s l r) = tt
clauses_read_numbered (verdicts.clause {c = c} {v = v} s l r p) = one_more_numbered c v (clause_read_numbered r) (clauses_read_numbered p)

pub program_numbered : {bytes : List ℕ} {v : Verdict (List Clause)} → ReadsProgram bytes v → IfAccepted AreClausesNumbered v
program_numbered (verdicts.too_long l) = tt
program_numbered (verdicts.clauses l r) = clauses_read_numbered r

query_text_numbered : {bytes : List ℕ} {v : Verdict Query} → ReadsQuery bytes v → IfAccepted IsQueryNumbered v
query_text_numbered (verdicts.no_token s r) = tt
query_text_numbered (verdicts.open_ended s r n t) = query_tests_numbered t
query_text_numbered (verdicts.ended last s r k l t) = query_tests_numbered t
query_text_numbered (verdicts.goes_on last s r k l m t) = no_query IsQueryNumbered t

pub answered_numbered : (bytes : List ℕ) (r : Result SourceQuery SyntaxError) → Answers query_view (ReadsQuery bytes) r → IfOk r (λ q. IsQueryNumbered (query_view q))
answered_numbered bytes (Ok x) h = query_text_numbered h
answered_numbered bytes (Err e) h = tt
