-- What a text reads as, with its variables by their scopes: it is one, no larger than the text, whole and numbered.
use Rattle.std.proofs.Common.{◌≡◌, ◌≤◌, ℕ, List, length, refl, subst, arith}
use Rattle.akl_syntax.specs.Goals.{goals}
use Rattle.akl_syntax.specs.Clauses.{Clause, Query}
use Rattle.akl_syntax.specs.Verdicts.{Verdict, accepted, ReadsProgram, ReadsQuery}
use Rattle.akl_syntax.specs.Verdicts as verdicts
use Rattle.akl_syntax.specs.Sizes.{clauses_size, query_size}
use Rattle.akl_syntax.specs.Variables.{AreClausesNumbered, IsQueryNumbered}
use Rattle.akl_syntax.proofs.OneVerdict.{program_one, query_verdict_one}
use Rattle.akl_syntax.proofs.SizeLaws.{program_size, query_text_size}
use Rattle.akl_lift.specs.Whole.{AreWhole, AreRead}
use Rattle.akl_lift.proofs.Reading.{program_whole, query_text_whole}
use Rattle.variable_scopes.specs.Scoped.{AreScoped, IsScopedQuery}
use Rattle.variable_scopes.proofs.OneForm.{one_scoped, one_scoped_query}
use Rattle.variable_scopes.proofs.Numbered.{all_scoped_numbered}
use Rattle.variable_scopes.proofs.Numbered as scoped
use Rattle.variable_scopes.proofs.SizeLaws.{all_scoped_size, query_scoped_size}
use Rattle.akl_run.specs.Loads.{IsProgramText, IsQueryText}
use Rattle.akl_run.proofs.WholeShapes.{scoped_read, scoped_query_whole}

accepted_same : {A : Type 0} {x y : A} → accepted x ≡ accepted y → x ≡ y
accepted_same p = cc

-- ---- programs
pub as_program : {text : List ℕ} {written cs : List Clause} → ReadsProgram text (accepted written) → AreScoped written cs → IsProgramText text cs
as_program {written = written} r s = record { written = written; reads = r; scoped = s }

short_of : (text : List ℕ) (v : Verdict (List Clause)) (cs : List Clause) → ReadsProgram text v → v ≡ accepted cs → length text ≤ 1000000
short_of text v cs (verdicts.too_long h) e = absurd cc
short_of text v cs (verdicts.clauses h r) e = h

pub program_small : {text : List ℕ} {cs : List Clause} → IsProgramText text cs → clauses_size cs ≤ 1000000
program_small {text} {cs} r =
    let size : clauses_size r.written ≤ length text = program_size r.reads in
    omega (arith, all_scoped_size r.written cs r.scoped, size, short_of text (accepted r.written) r.written r.reads refl)

pub program_read : {text : List ℕ} {cs : List Clause} → IsProgramText text cs → AreRead cs
program_read {cs = cs} r = scoped_read r.written cs r.scoped (program_whole r.reads)

pub program_numbered : {text : List ℕ} {cs : List Clause} → IsProgramText text cs → AreClausesNumbered cs
program_numbered {cs = cs} r = all_scoped_numbered r.written cs r.scoped

-- the clauses of one text are one list
pub clauses_one : {text : List ℕ} {cs ds : List Clause} → IsProgramText text cs → IsProgramText text ds → cs ≡ ds
clauses_one {cs = cs} {ds = ds} r q =
    one_scoped q.written cs ds (subst (λ (z : List Clause). AreScoped z cs) (accepted_same (program_one r.reads q.reads)) r.scoped) q.scoped

-- ---- queries
pub as_query : {text : List ℕ} {written q : Query} → ReadsQuery text (accepted written) → IsScopedQuery written q → IsQueryText text q
as_query {written = written} r s = record { written = written; reads = r; scoped = s }

pub query_small : {text : List ℕ} {q : Query} → IsQueryText text q → query_size q ≤ length text
query_small {text} {q} r = let size : query_size r.written ≤ length text = query_text_size r.reads in omega (arith, query_scoped_size r.scoped, size)

pub query_whole : {text : List ℕ} {q : Query} → IsQueryText text q → AreWhole (goals q.goals)
query_whole r = scoped_query_whole r.scoped (query_text_whole r.reads)

pub query_numbered : {text : List ℕ} {q : Query} → IsQueryText text q → IsQueryNumbered q
query_numbered r = scoped.query_numbered r.scoped

pub query_one : {text : List ℕ} {x y : Query} → IsQueryText text x → IsQueryText text y → x ≡ y
query_one {x = x} {y = y} r q = one_scoped_query {q = q.written} (subst (λ (z : Query). IsScopedQuery z x) (accepted_same (query_verdict_one r.reads q.reads)) r.scoped) q.scoped
