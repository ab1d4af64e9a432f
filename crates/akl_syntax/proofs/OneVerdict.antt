-- A text is read in one way, and what is read piece by piece is read of the whole.
use Rattle.std.proofs.Common.{◌≡◌, ◌≢◌, ℕ, ◌<◌, List, [], ◌∷◌, ◌++◌, length, Option, Some, None, refl, sym, ap, subst, ◌∙◌, arith, Result, Ok, Err}
use Rattle.std.proofs.lemmas.List.{length-append}
use Rattle.akl_text.specs.declared.token.Kind.TheVariants as kinds
use Rattle.akl_text.specs.declared.token.Token.{Token}
use Rattle.akl_text.specs.Tokens.{Outcome, tokens, nothing_at, ReadsFrom}
use Rattle.akl_text.proofs.Reading.{one_reading}
use Rattle.akl_lexemes.specs.declared.lexeme.Lexeme.{Lexeme}
use Rattle.akl_lexemes.specs.declared.fault.Fault.{Fault}
use Rattle.akl_lexemes.specs.declared.fault.Fault.TheVariants as faults
use Rattle.akl_lexemes.specs.declared.error.SyntaxError.{SyntaxError}
use Rattle.akl_lexemes.specs.declared.error.SyntaxError.TheVariants.{Syntax, TooDeep, IntRange, TooLong, Memory}
use Rattle.akl_lexemes.specs.Memory.{IsMemory}
use Rattle.akl_syntax.specs.Answers.{Answers}
use Rattle.akl_syntax.specs.Clauses.{Clause, Query, IsClause, IsQuery, HasPart, clause_of}
use Rattle.akl_syntax.specs.Clauses as clauses_of
use Rattle.akl_syntax.specs.Goals.{Part}
use Rattle.term_syntax.specs.Tree.{Tree}
use Rattle.akl_syntax.specs.Faults.{IsErrorOf}
use Rattle.akl_lexemes.specs.Faults.{IsLimitFault}
use Rattle.akl_lexemes.specs.Lexemes.{Lexemes}
use Rattle.akl_lexemes.specs.Limits.{first_too_deep, first_out_of_range}
use Rattle.akl_syntax.specs.Verdicts.{Verdict, accepted, refused, Tests, too_deep, out_of_range, not_derived, derived, NotEnded, ending_at, ReadsClause, ReadsClauses, with_clause, ReadsProgram, ReadsQuery}
use Rattle.akl_text.specs.Layout.{SkipsFrom}
use Rattle.akl_syntax.specs.Verdicts as verdicts
use Rattle.akl_syntax.specs.Wholes.{RefusesAll}
use Rattle.term_syntax.proofs.Unique.{arguments_one}
use Rattle.akl_syntax.proofs.ClauseTurns.{part_alone, query_one}
use Rattle.akl_lexemes.proofs.LexemeTurns.{lexemes_one}
use Rattle.akl_text.proofs.LayoutSkips.{skips_one}

-- ---- answers
pub answers_as : {X A : Type 0} (view : X → A) (P : Verdict A → Type 0) (Q : Verdict A → Type 0) (r : Result X SyntaxError) → ((v : Verdict A) → P v → Q v) → Answers view P r → Answers view Q r
answers_as view P Q (Ok x) f h = f _ h
answers_as view P Q (Err (Syntax at)) f h = f _ h
answers_as view P Q (Err (TooDeep at)) f h = f _ h
answers_as view P Q (Err (IntRange at)) f h = f _ h
answers_as view P Q (Err (TooLong n)) f h = f _ h
answers_as view P Q (Err (Memory e)) f h = tt

-- an error that was passed on
pub passed_on : {X Y A B : Type 0} (view : X → A) (other : Y → B) (P : Verdict A → Type 0) (Q : Verdict B → Type 0) (e : SyntaxError) → ((x : SyntaxError) → P (refused x) → Q (refused x)) → Answers view P (Err e) → Answers other Q (Err e)
passed_on view other P Q (Syntax at) f h = f _ h
passed_on view other P Q (TooDeep at) f h = f _ h
passed_on view other P Q (IntRange at) f h = f _ h
passed_on view other P Q (TooLong n) f h = f _ h
passed_on view other P Q (Memory e) f h = tt

pub of_memory : {X A : Type 0} (view : X → A) (P : Verdict A → Type 0) (e : SyntaxError) → IsMemory e → Answers view P (Err e)
of_memory view P (Memory e) h = tt
of_memory view P (Syntax at) h = absurd h
of_memory view P (TooDeep at) h = absurd h
of_memory view P (IntRange at) h = absurd h
of_memory view P (TooLong n) h = absurd h

-- ---- the tests
module _ {X A : Type 0} (view : X → A) (bytes : List ℕ) (start : ℕ) (Derives : List (List ℕ) → List Lexeme → A → Type 0) (ts : List Token) where
  pub limit_fault : (e : SyntaxError) → IsLimitFault bytes ts e → Answers view (Tests bytes start Derives ts) (Err e)
  limit_fault (TooDeep at) h = subst (λ (z : ℕ). Tests bytes start Derives ts (refused (TooDeep z))) (sym h.2) (too_deep h.1)
  limit_fault (IntRange at) h = subst (λ (z : ℕ). Tests bytes start Derives ts (refused (IntRange z))) (sym h.1.2) (out_of_range h.0 h.1.1)
  limit_fault (Memory e) h = tt
  limit_fault (Syntax at) h = absurd h
  limit_fault (TooLong n) h = absurd h

  pub whole_fault : (ls : List Lexeme) (names : List (List ℕ)) (f : Fault) (e : SyntaxError) → first_too_deep ts ≡ None → first_out_of_range bytes ts ≡ None → Lexemes bytes [] ts ls names
      → RefusesAll (Derives names ls) f → IsErrorOf start f e → Answers view (Tests bytes start Derives ts) (Err e)
  whole_fault ls names faults.Syntax e d r l none h = subst (λ (z : SyntaxError). Answers view (Tests bytes start Derives ts) (Err z)) (sym h) (not_derived d r l none)
  whole_fault ls names faults.Memory e d r l none h = of_memory view (Tests bytes start Derives ts) e h

-- ---- the last token
nil_not_snoc : {A : Type 0} (xs : List A) (x : A) → [] ≡ xs ++ x ∷ [] → ⊥
nil_not_snoc xs x e = absurd (omega (arith, ap length e, length-append xs (x ∷ [])))

tail_same : {A : Type 0} (x y : A) (xs ys : List A) → x ∷ xs ≡ y ∷ ys → xs ≡ ys
tail_same x y xs ys e = cc

head_same : {A : Type 0} (x y : A) (xs ys : List A) → x ∷ xs ≡ y ∷ ys → x ≡ y
head_same x y xs ys e = cc

pub snoc_same : {A : Type 0} (xs ys : List A) (x y : A) → xs ++ x ∷ [] ≡ ys ++ y ∷ [] → (xs ≡ ys) × (x ≡ y)
snoc_same [] [] x y e = (refl, head_same x y [] [] e)
snoc_same [] (b ∷ ys) x y e = absurd (nil_not_snoc ys y (tail_same x b [] (ys ++ y ∷ []) e))
snoc_same (a ∷ xs) [] x y e = absurd (nil_not_snoc xs x (sym (tail_same a y (xs ++ x ∷ []) [] e)))
snoc_same (a ∷ xs) (b ∷ ys) x y e =
    let h = snoc_same xs ys x y (tail_same a b (xs ++ x ∷ []) (ys ++ y ∷ []) e) in
    let s : a ≡ b = head_same a b (xs ++ x ∷ []) (ys ++ y ∷ []) e in
    let t : xs ≡ ys = h.0 in
    (cc, h.1)

pub not_ended_by : (ts before : List Token) (last : Token) → ts ≡ before ++ last ∷ [] → last.kind ≢ kinds.End → NotEnded ts
not_ended_by ts before last e f other l e' g = f (ap (λ (z : Token). z.kind) (snoc_same before other last l (sym e ∙ e')).1 ∙ g)

pub nothing_ended : (ts : List Token) → ts ≡ [] → NotEnded ts
nothing_ended ts e other l e' g = nil_not_snoc other l (sym e ∙ e')

-- ---- one way
accepted_not : {A : Type 0} {x : A} {e : SyntaxError} → accepted x ≡ refused e → ⊥
accepted_not e = absurd cc

some_token : {x : Option Token} {s t : Token} → x ≡ Some s → x ≡ Some t → s ≡ t
some_token e f = cc

no_token_is : {x : Option Token} {s : Token} → x ≡ Some s → x ≡ None → ⊥
no_token_is e f = (let g = sym e ∙ f in absurd cc)

pub tests_one : {bytes : List ℕ} {start : ℕ} {A : Type 0} {Derives : List (List ℕ) → List Lexeme → A → Type 0} {ts : List Token} {v w : Verdict A}
    → ((names : List (List ℕ)) (ls : List Lexeme) (x y : A) → Derives names ls x → Derives names ls y → x ≡ y) → Tests bytes start Derives ts v → Tests bytes start Derives ts w → v ≡ w
tests_one one (too_deep e) (too_deep f) = ap (λ (z : Token). refused (TooDeep z.start)) (some_token e f)
tests_one one (too_deep e) (out_of_range f g) = absurd (no_token_is e f)
tests_one one (too_deep e) (not_derived f g l n) = absurd (no_token_is e f)
tests_one one (too_deep e) (derived f g l n) = absurd (no_token_is e f)
tests_one one (out_of_range e g) (too_deep f) = absurd (no_token_is f e)
tests_one one (out_of_range e f) (out_of_range g h) = ap (λ (z : Token). refused (IntRange z.start)) (some_token f h)
tests_one one (out_of_range e f) (not_derived g h l n) = absurd (no_token_is f h)
tests_one one (out_of_range e f) (derived g h l n) = absurd (no_token_is f h)
tests_one one (not_derived f g l n) (too_deep e) = absurd (no_token_is e f)
tests_one one (not_derived g h l n) (out_of_range e f) = absurd (no_token_is f h)
tests_one one (not_derived e f l n) (not_derived e' f' l' n') = refl
tests_one {Derives = Derives} one (not_derived {ls = ls} {names = names} e f l n) (derived {ls = ls'} {names = names'} {x = x} e' f' l' d) =
    let h = lexemes_one l l' refl in
    absurd (n x (subst (λ (z : List (List ℕ)). Derives z ls x) (sym h.1) (subst (λ (z : List Lexeme). Derives names' z x) (sym h.0) d)))
tests_one one (derived f g l n) (too_deep e) = absurd (no_token_is e f)
tests_one one (derived g h l n) (out_of_range e f) = absurd (no_token_is f h)
tests_one {Derives = Derives} one (derived {ls = ls'} {names = names'} {x = x} e' f' l' d) (not_derived {ls = ls} {names = names} e f l n) =
    let h = lexemes_one l l' refl in
    absurd (n x (subst (λ (z : List (List ℕ)). Derives z ls x) (sym h.1) (subst (λ (z : List Lexeme). Derives names' z x) (sym h.0) d)))
tests_one {Derives = Derives} one (derived {ls = ls} {names = names} {x = x} e f l d) (derived {ls = ls'} {names = names'} {x = y} e' f' l' d') =
    let h = lexemes_one l l' refl in
    let d'' : Derives names ls y = subst (λ (z : List (List ℕ)). Derives z ls y) (sym h.1) (subst (λ (z : List Lexeme). Derives names' z y) (sym h.0) d') in
    ap accepted (one names ls x y d d'')

pub clause_one : (start : ℕ) (names : List (List ℕ)) (ls : List Lexeme) (c d : Clause) → IsClause start names ls c → IsClause start names ls d → c ≡ d
clause_one start names _ _ _ (clauses_of.clause {s = s} {ts = ts} {p = p} x y) (clauses_of.clause {ts = us} {p = q} x' y') =
    let h = arguments_one x x' in
    let e : p ≡ q = part_alone y (subst (λ (z : List Lexeme). HasPart z q) (sym h.1) y') in
    ap (λ (z : List Tree). clause_of start names s z p) h.0 ∙ ap (λ (z : Part). clause_of start names s us z) e

outcomes_apart : {at : ℕ} {ts : List Token} → nothing_at at ≡ tokens ts → ⊥
outcomes_apart e = absurd cc

tokens_same : {ts us : List Token} → tokens ts ≡ tokens us → ts ≡ us
tokens_same e = cc

pub clause_verdict_one : {bytes : List ℕ} {start : ℕ} {v w : Verdict (Clause × ℕ)} → ReadsClause bytes start v → ReadsClause bytes start w → v ≡ w
clause_verdict_one (verdicts.no_token r) (verdicts.no_token s) = refl
clause_verdict_one (verdicts.no_token r) (verdicts.no_end s n) = refl
clause_verdict_one (verdicts.no_token r) (verdicts.ended last s k t) = absurd (outcomes_apart (one_reading r s))
clause_verdict_one (verdicts.no_end r n) (verdicts.no_token s) = refl
clause_verdict_one (verdicts.no_end r n) (verdicts.no_end s m) = refl
clause_verdict_one (verdicts.no_end r n) (verdicts.ended {ts = ts} last s k t) = absurd (n ts last (tokens_same (one_reading r s)) k)
clause_verdict_one (verdicts.ended last s k t) (verdicts.no_token r) = absurd (outcomes_apart (one_reading r s))
clause_verdict_one (verdicts.ended {ts = ts} last s k t) (verdicts.no_end r n) = absurd (n ts last (tokens_same (one_reading r s)) k)
clause_verdict_one {bytes} {start} (verdicts.ended {ts = ts} last {v = v} r k t) (verdicts.ended {ts = us} other {v = w} s l u) =
    let h = snoc_same ts us last other (tokens_same (one_reading r s)) in
    let u' : Tests bytes start (IsClause start) ts w = subst (λ (z : List Token). Tests bytes start (IsClause start) z w) (sym h.0) u in
    ap (λ (z : Token). ending_at z.end v) h.1 ∙ ap (ending_at other.end) (tests_one (clause_one start) t u')

below_not : {m n : ℕ} → m < n → n ≡ m → ⊥
below_not h e = absurd (omega (arith, h, e))

inner_same : {A : Type 0} {x y : A} → accepted x ≡ accepted y → x ≡ y
inner_same e = cc

ends_same : (x y : Clause × ℕ) → accepted x ≡ accepted y → (x.0 ≡ y.0) × (x.1 ≡ y.1)
ends_same x y e = let f : x ≡ y = inner_same e in (ap (λ (z : Clause × ℕ). z.0) f, ap (λ (z : Clause × ℕ). z.1) f)

pub clauses_one : {bytes : List ℕ} {from : ℕ} {v w : Verdict (List Clause)} → ReadsClauses bytes from v → ReadsClauses bytes from w → v ≡ w
clauses_one (verdicts.ended s) (verdicts.ended t) = refl
clauses_one (verdicts.ended s) (verdicts.refuses t l r) = absurd (below_not l (skips_one s t))
clauses_one (verdicts.ended s) (verdicts.clause t l r q) = absurd (below_not l (skips_one s t))
clauses_one (verdicts.refuses t l r) (verdicts.ended s) = absurd (below_not l (skips_one s t))
clauses_one (verdicts.clause t l r q) (verdicts.ended s) = absurd (below_not l (skips_one s t))
clauses_one {bytes} (verdicts.refuses {e = e} s l r) (verdicts.refuses {e = f} t m q) =
    let h : refused e ≡ refused f = clause_verdict_one r (subst (λ (z : ℕ). ReadsClause bytes z (refused f)) (skips_one t s) q) in
    let g : e ≡ f = refused_same h in ap refused g
  where
    refused_same : {e f : SyntaxError} → ◌≡◌ {A = Verdict (Clause × ℕ)} (refused e) (refused f) → e ≡ f
    refused_same x = cc
clauses_one {bytes} (verdicts.refuses {e = e} s l r) (verdicts.clause {end = end} {c = c} t m q p) =
    absurd (accepted_not (sym (clause_verdict_one r (subst (λ (z : ℕ). ReadsClause bytes z (accepted (c, end))) (skips_one t s) q))))
clauses_one {bytes} (verdicts.clause {end = end} {c = c} t m q p) (verdicts.refuses {e = e} s l r) =
    absurd (accepted_not (sym (clause_verdict_one r (subst (λ (z : ℕ). ReadsClause bytes z (accepted (c, end))) (skips_one t s) q))))
clauses_one {bytes} (verdicts.clause {end = end} {c = c} {v = v} s l r p) (verdicts.clause {end = end'} {c = d} {v = w} t m q p') =
    let h : ◌≡◌ {A = Verdict (Clause × ℕ)} (accepted (c, end)) (accepted (d, end')) = clause_verdict_one r (subst (λ (z : ℕ). ReadsClause bytes z (accepted (d, end'))) (skips_one t s) q) in
    let k = ends_same (c, end) (d, end') h in
    let p'' : ReadsClauses bytes end w = subst (λ (z : ℕ). ReadsClauses bytes z w) (sym k.1) p' in
    ap (λ (z : Clause). with_clause z v) k.0 ∙ ap (with_clause d) (clauses_one p p'')

pub program_one : {bytes : List ℕ} {v w : Verdict (List Clause)} → ReadsProgram bytes v → ReadsProgram bytes w → v ≡ w
program_one (verdicts.too_long l) (verdicts.too_long m) = refl
program_one (verdicts.too_long l) (verdicts.clauses m r) = absurd (omega (arith, l, m))
program_one (verdicts.clauses m r) (verdicts.too_long l) = absurd (omega (arith, l, m))
program_one (verdicts.clauses l r) (verdicts.clauses m s) = clauses_one r s

query_names : (names : List (List ℕ)) (ls : List Lexeme) (x y : Query) → IsQuery names ls x → IsQuery names ls y → x ≡ y
query_names names ls x y a b = query_one a b

nothing_derived : (names : List (List ℕ)) (ls : List Lexeme) (x y : Query) → ⊥ → ⊥ → x ≡ y
nothing_derived names ls x y a b = absurd a

module _ {bytes : List ℕ} where
  reads_at : {m n : ℕ} {o : Outcome} → SkipsFrom bytes 0 m → SkipsFrom bytes 0 n → ReadsFrom bytes n o → ReadsFrom bytes m o
  reads_at {m} {n} {o} s t r = subst (λ (z : ℕ). ReadsFrom bytes z o) (skips_one t s) r

  tests_at : {m n : ℕ} {Derives : List (List ℕ) → List Lexeme → Query → Type 0} {ts us : List Token} {v : Verdict Query} → SkipsFrom bytes 0 m → SkipsFrom bytes 0 n → ts ≡ us → Tests bytes n Derives us v → Tests bytes m Derives ts v
  tests_at {m} {n} {Derives} {ts} {us} {v} s t e h = subst (λ (z : ℕ). Tests bytes z Derives ts v) (skips_one t s) (subst (λ (z : List Token). Tests bytes n Derives z v) (sym e) h)

  pub query_verdict_one : {v w : Verdict Query} → ReadsQuery bytes v → ReadsQuery bytes w → v ≡ w
  query_verdict_one (verdicts.no_token s r) (verdicts.no_token t q) = ap (λ (z : ℕ). refused (Syntax z)) (skips_one s t)
  query_verdict_one (verdicts.no_token s r) (verdicts.open_ended t q n h) = absurd (outcomes_apart (one_reading r (reads_at s t q)))
  query_verdict_one (verdicts.no_token s r) (verdicts.ended last t q k l h) = absurd (outcomes_apart (one_reading r (reads_at s t q)))
  query_verdict_one (verdicts.no_token s r) (verdicts.goes_on last t q k l m h) = absurd (outcomes_apart (one_reading r (reads_at s t q)))
  query_verdict_one (verdicts.open_ended t q n h) (verdicts.no_token s r) = absurd (outcomes_apart (one_reading r (reads_at s t q)))
  query_verdict_one (verdicts.open_ended s r n h) (verdicts.open_ended t q m i) = tests_one query_names h (tests_at s t (tokens_same (one_reading r (reads_at s t q))) i)
  query_verdict_one (verdicts.open_ended s r n h) (verdicts.ended {ts = us} last t q k l i) = absurd (n us last (tokens_same (one_reading r (reads_at s t q))) k)
  query_verdict_one (verdicts.open_ended s r n h) (verdicts.goes_on {ts = us} last t q k l m i) = absurd (n us last (tokens_same (one_reading r (reads_at s t q))) k)
  query_verdict_one (verdicts.ended last t q k l h) (verdicts.no_token s r) = absurd (outcomes_apart (one_reading r (reads_at s t q)))
  query_verdict_one (verdicts.ended {ts = us} last t q k l i) (verdicts.open_ended s r n h) = absurd (n us last (tokens_same (one_reading r (reads_at s t q))) k)
  query_verdict_one (verdicts.ended {ts = ts} last s r k l h) (verdicts.ended {ts = us} other t q k' l' i) =
      tests_one query_names h (tests_at s t (snoc_same ts us last other (tokens_same (one_reading r (reads_at s t q)))).0 i)
  query_verdict_one (verdicts.ended {ts = ts} last s r k l h) (verdicts.goes_on {next = next} {ts = us} other t q k' l' m i) =
      let e : last ≡ other = (snoc_same ts us last other (tokens_same (one_reading r (reads_at s t q)))).1 in
      absurd (below_not m (skips_one (subst (λ (z : Token). SkipsFrom bytes z.end (length bytes)) e l) l'))
  query_verdict_one (verdicts.goes_on last t q k l m h) (verdicts.no_token s r) = absurd (outcomes_apart (one_reading r (reads_at s t q)))
  query_verdict_one (verdicts.goes_on {ts = us} last t q k l m i) (verdicts.open_ended s r n h) = absurd (n us last (tokens_same (one_reading r (reads_at s t q))) k)
  query_verdict_one (verdicts.goes_on {next = next} {ts = us} other t q k' l' m i) (verdicts.ended {ts = ts} last s r k l h) =
      let e : last ≡ other = (snoc_same ts us last other (tokens_same (one_reading r (reads_at s t q)))).1 in
      absurd (below_not m (skips_one (subst (λ (z : Token). SkipsFrom bytes z.end (length bytes)) e l) l'))
  query_verdict_one (verdicts.goes_on {ts = ts} last s r k l m h) (verdicts.goes_on {ts = us} other t q k' l' m' i) =
      tests_one nothing_derived h (tests_at s t (snoc_same ts us last other (tokens_same (one_reading r (reads_at s t q)))).0 i)
