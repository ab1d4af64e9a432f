-- What reading a clause, a program and a query rests on.
use Rattle.std.proofs.Common.{◌≡◌, ℕ, zero, suc, ◌<◌, ◌≤◌, List, [], ◌∷◌, ◌++◌, length, drop, refl, sym, ap, subst, arith, append_assoc, Err}
use Rattle.std.specs.List.{All}
use Rattle.std.proofs.lemmas.List.{append-nil, length-append, length-drop}
use Rattle.akl_text.specs.declared.token.Kind.TheVariants as kinds
use Rattle.akl_text.specs.declared.token.Token.{Token}
use Rattle.akl_text.specs.Tokens.{tokens, ReadsFrom}
use Rattle.akl_lexemes.specs.declared.error.SyntaxError.{SyntaxError}
use Rattle.akl_lexemes.specs.declared.error.SyntaxError.TheVariants.{Syntax, TooDeep, IntRange, TooLong, Memory}
use Rattle.akl_syntax.specs.Answers.{Answers, ending_view, clauses_view, query_view}
use Rattle.akl_syntax.specs.Clauses.{Clause}
use Rattle.akl_syntax.specs.Faults.{IsTokenFault, ReadsTokens}
use Rattle.akl_lexemes.specs.Faults.{IsLimitFault}
use Rattle.akl_syntax.specs.Verdicts.{Verdict, accepted, refused, Tests, ReadsClause, ReadsClauses, with_clause, ReadsProgram, ReadsQuery}
use Rattle.akl_text.specs.Layout.{SkipsFrom}
use Rattle.akl_syntax.specs.Verdicts as verdicts
use Rattle.akl_text.proofs.TokenBounds.{are_bound, last_behind, AreBound}
use Rattle.akl_syntax.proofs.OneVerdict.{passed_on, limit_fault}

-- ---- the tokens before the last
pub all_front : {X : Type 0} (P : X → Type 0) (xs ys : List X) → All P (xs ++ ys) → All P xs
all_front P [] ys h k d l = absurd (omega (arith, l))
all_front P (x ∷ xs) ys h zero d l = h 0 d (omega arith)
all_front P (x ∷ xs) ys h (suc k) d l = all_front P xs ys (λ i e m. h (suc i) e (omega (arith, m))) k d (omega (arith, l))

pub all_last : {X : Type 0} (P : X → Type 0) (xs : List X) (x : X) → All P (xs ++ x ∷ []) → P x
all_last P [] x h = h 0 x (omega arith)
all_last P (y ∷ xs) x h = all_last P xs x (λ k d l. h (suc k) d (omega (arith, l)))

bound : (bytes : List ℕ) (start : ℕ) (ts : List Token) → ReadsTokens bytes start ts → AreBound start (length (drop start bytes)) ts
bound bytes start ts r = are_bound r

pub few_tokens : (bytes : List ℕ) (start : ℕ) (ts : List Token) → ReadsTokens bytes start ts → length bytes ≤ 1000000 → length ts < 4294967295
few_tokens bytes start ts r h = omega (arith, (bound bytes start ts r).count, length-drop start bytes, h)

pub few_before : (bytes : List ℕ) (start : ℕ) (ts before : List Token) (last : Token) → ReadsTokens bytes start ts → ts ≡ before ++ last ∷ [] → length bytes ≤ 1000000 → length before < 4294967295
few_before bytes start ts before last r e h = omega (arith, few_tokens bytes start ts r h, ap length e, length-append before (last ∷ []))

pub last_after : (bytes : List ℕ) (start : ℕ) (ts before : List Token) (last : Token) → ReadsTokens bytes start ts → ts ≡ before ++ last ∷ [] → start < last.end
last_after bytes start ts before last r e = last_behind start before last (rw e at (bound bytes start ts r).ends)

-- ---- clauses
pub token_fault : (bytes : List ℕ) (start : ℕ) (e : SyntaxError) → IsTokenFault bytes start e → Answers ending_view (ReadsClause bytes start) (Err e)
token_fault bytes start (Syntax at) h = subst (λ (z : ℕ). ReadsClause bytes start (refused (Syntax z))) (sym h.0) (verdicts.no_token h.1.1)
token_fault bytes start (Memory e) h = tt
token_fault bytes start (TooDeep at) h = absurd h
token_fault bytes start (IntRange at) h = absurd h
token_fault bytes start (TooLong n) h = absurd h

pub query_token_fault : (bytes : List ℕ) (start : ℕ) (e : SyntaxError) → SkipsFrom bytes 0 start → IsTokenFault bytes start e → Answers query_view (ReadsQuery bytes) (Err e)
query_token_fault bytes start (Syntax at) s h = subst (λ (z : ℕ). ReadsQuery bytes (refused (Syntax z))) (sym h.0) (verdicts.no_token s h.1.1)
query_token_fault bytes start (Memory e) s h = tt
query_token_fault bytes start (TooDeep at) s h = absurd h
query_token_fault bytes start (IntRange at) s h = absurd h
query_token_fault bytes start (TooLong n) s h = absurd h

-- ---- programs
abbrev pub ahead : List Clause → Verdict (List Clause) → Verdict (List Clause)
ahead cs (accepted ds) = accepted (cs ++ ds)
ahead cs (refused e) = refused e

pub record ProgramSoFar (bytes : List ℕ) (found : List Clause) (start : ℕ) : Type 0 where
  pub from : ℕ
  pub skips : SkipsFrom bytes from start
  pub onward : (v : Verdict (List Clause)) → ReadsClauses bytes from v → ReadsClauses bytes 0 (ahead found v)
  pub within : start ≤ length bytes

none_ahead : (v : Verdict (List Clause)) → v ≡ ahead [] v
none_ahead (accepted cs) = refl
none_ahead (refused e) = refl

pub program_start : (bytes : List ℕ) (start : ℕ) → SkipsFrom bytes 0 start → start ≤ length bytes → ProgramSoFar bytes [] start
program_start bytes start s h = record { from = 0; skips = s; onward = λ v r. subst (λ (z : Verdict (List Clause)). ReadsClauses bytes 0 z) (none_ahead v) r; within = h }

ahead_with : (found : List Clause) (c : Clause) (v : Verdict (List Clause)) → ahead found (with_clause c v) ≡ ahead (found ++ c ∷ []) v
ahead_with found c (accepted cs) = ap accepted (one_by_one found c cs)
  where
    one_by_one : (xs : List Clause) (x : Clause) (ys : List Clause) → xs ++ x ∷ ys ≡ (xs ++ x ∷ []) ++ ys
    one_by_one xs x ys = rw append_assoc refl
ahead_with found c (refused e) = refl

pub program_step : {bytes : List ℕ} {found : List Clause} {start end next : ℕ} {c : Clause} → ProgramSoFar bytes found start → start < length bytes → ReadsClause bytes start (accepted (c, end)) → SkipsFrom bytes end next → next ≤ length bytes
    → ProgramSoFar bytes (found ++ c ∷ []) next
program_step {bytes} {found} {end = end} {c = c} h l r s w = record {
  from = end;
  skips = s;
  onward = λ v q. subst (λ (z : Verdict (List Clause)). ReadsClauses bytes 0 z) (ahead_with found c v) (h.onward (with_clause c v) (verdicts.clause h.skips l r q));
  within = w;
}

pub program_end : {bytes : List ℕ} {found : List Clause} {start : ℕ} → ProgramSoFar bytes found start → length bytes ≤ start → ReadsClauses bytes 0 (accepted found)
program_end {bytes} {found} {start} h l =
    let e : start ≡ length bytes = omega (arith, h.within, l) in
    let s : SkipsFrom bytes h.from (length bytes) = subst (λ (z : ℕ). SkipsFrom bytes h.from z) e h.skips in
    subst (λ (z : List Clause). ReadsClauses bytes 0 (accepted z)) (append-nil found) (h.onward (accepted []) (verdicts.ended s))

pub program_fault : {bytes : List ℕ} {found : List Clause} {start : ℕ} (e : SyntaxError) → length bytes ≤ 1000000 → ProgramSoFar bytes found start → start < length bytes → Answers ending_view (ReadsClause bytes start) (Err e) → Answers clauses_view (ReadsProgram bytes) (Err e)
program_fault {bytes} {start = start} e h p l a =
    passed_on ending_view clauses_view (ReadsClause bytes start) (ReadsProgram bytes) e (λ x r. verdicts.clauses h (p.onward (refused x) (verdicts.refuses p.skips l r))) a

-- ---- queries
pub query_limit_fault : (bytes : List ℕ) (start next : ℕ) (before : List Token) (last : Token) (e : SyntaxError) → SkipsFrom bytes 0 start → ReadsFrom bytes start (tokens (before ++ last ∷ [])) → last.kind ≡ kinds.End
    → SkipsFrom bytes last.end next → next < length bytes → IsLimitFault bytes before e → Answers query_view (ReadsQuery bytes) (Err e)
query_limit_fault bytes start next before last e s r k t l h =
    passed_on query_view query_view (Tests bytes start (λ names ls q. ⊥) before) (ReadsQuery bytes) e (λ x y. verdicts.goes_on last s r k t l y)
    (limit_fault query_view bytes start (λ names ls q. ⊥) before e h)
