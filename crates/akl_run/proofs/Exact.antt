-- A text that is refused is refused in one way, and a command ends so.
use Rattle.std.proofs.Common.{◌≡◌, ◌<◌, ◌≤◌, ℕ, zero, suc, List, [], ◌++◌, length, map, Option, Some, None, Result, Ok, Err, refl, sym, ap, subst, ◌∙◌, ◌⊎◌, inl, inr, arith}
use Rattle.std.specs.Prelude.{take}
use Rattle.std.proofs.lemmas.List.{take_at, take_all}
use Rattle.akl_terms.specs.declared.program.Program.{Program}
use Rattle.akl_lexemes.specs.declared.error.SyntaxError.{SyntaxError}
use Rattle.akl_lexemes.specs.declared.error.SyntaxError.TheVariants.{TooLong}
use Rattle.akl_syntax.specs.Clauses.{Clause, Query}
use Rattle.akl_syntax.specs.Verdicts.{Verdict, accepted, refused}
use Rattle.akl_syntax.proofs.OneVerdict.{program_one, query_verdict_one}
use Rattle.clause_keys.specs.declared.callee.Callee.{Callee}
use Rattle.clause_keys.specs.Keys.{called_by, Adds, known, next, Collects}
use Rattle.clause_keys.specs.Keys as keys
use Rattle.clause_checks.specs.Refusals.{refusal_of, query_refusal_of}
use Rattle.akl_lift.specs.Lifting.{lifted_clauses}
use Rattle.akl_run.specs.declared.report.Status.{Status}
use Rattle.akl_run.specs.declared.report.Refusal.{Refusal}
use Rattle.akl_run.specs.declared.loaded.Loaded.{Loaded}
use Rattle.akl_args.specs.declared.options.Options.{Options}
use Rattle.akl_args.specs.declared.options.WordsError.{WordsError}
use Rattle.akl_run.specs.Words.{query_of, program_of}
use Rattle.akl_run.specs.declared.evaluate.Evaluated.{Evaluated}
use Rattle.akl_run.specs.declared.stop.Stop.{Stop}
use Rattle.akl_run.specs.Steps.{IsStopped, IsWritten, EndsWriting}
use Rattle.akl_run.specs.Steps as steps
use Rattle.akl_run.specs.Loads.{IsLoadedFrom, IsLoadedProgram, ProgramStops, QueryStops, IsLoadedQuery, by_text, by_loading, no_memory}
use Rattle.akl_run.specs.Commands.{Side, side, Command, HasFaulted, HasWorked, HasProgram, Asks, IsAskedBy, IsRead, IsGiven, Stops, by_words, by_reading, by_program, by_query, by_run, fault, IsFault, WordsEnd, ProgramEnds, QueryEnds, IsOutcome, IsComplete}
use Rattle.akl_run.specs.Commands as commands
use Rattle.akl_run.specs.Reports as reports
use Rattle.akl_run.proofs.ReadTexts.{clauses_one, query_one}
use Rattle.akl_run.proofs.Explained.{Ended, stopped, ran, status_runs, rose}

-- ---- what was read is the front of what there was
or_more : (m n : ℕ) → (m ≤ n) ⊎ (n < m)
or_more zero n = inl (omega arith)
or_more (suc m) zero = inr (omega arith)
or_more (suc m) (suc n) = elim (or_more m n) [ inl h ↦ inl (omega (arith, h)) | inr h ↦ inr (omega (arith, h)) ]

some_same : {X : Type 0} {x y : X} → Some x ≡ Some y → x ≡ y
some_same e = cc

front_of : (text : List ℕ) (n m : ℕ) (rest : Option (List ℕ)) (bytes : List ℕ) → IsRead (side (Some text) n) (side rest m) bytes → bytes ≡ take 1000001 text
front_of text n m None bytes h = let e : Some text ≡ None = h.read in absurd cc
front_of text n m (Some rest) bytes h = on (or_more (length bytes) 1000000)
  where
    on : (length bytes ≤ 1000000) ⊎ (1000000 < length bytes) → bytes ≡ take 1000001 text
    on (inl short) =
        let e : bytes ≡ text = h.whole short in
        e ∙ sym (take_all 1000001 text (subst (λ (z : List ℕ). length z ≤ 1000001) e h.few))
    on (inr long) =
        let n : length bytes ≡ 1000001 = omega (arith, long, h.few) in
        let e : text ≡ bytes ++ rest = some_same h.read in
        sym (take_at bytes rest 1000001 n) ∙ ap (take 1000001) (sym e)

pub read_front : (before after : Side) (text bytes : List ℕ) → before.bytes ≡ Some text → IsRead before after bytes → bytes ≡ take 1000001 text
read_front before after text bytes e h = front_of text before.faults after.faults after.bytes bytes (subst (λ (z : Option (List ℕ)). IsRead (side z before.faults) after bytes) e h)

-- the program of a command is the one that it was given
same_given : (made : Option (List ℕ)) (before after : Side) (program bytes : List ℕ) → HasProgram made before program → IsGiven made before after bytes → bytes ≡ program
same_given None before after program bytes h g = read_front before after h.0 bytes h.1 g ∙ sym h.2
same_given (Some made) before after program bytes h g = g.1 ∙ sym h

-- ---- a program's text is refused in one way
refused_same : {A : Type 0} {e d : SyntaxError} → ◌≡◌ {A = Verdict A} (refused e) (refused d) → e ≡ d
refused_same p = cc

not_both : {A : Type 0} {x : A} {e : SyntaxError} → accepted x ≡ refused e → ⊥
not_both p = absurd cc

none_some : {X : Type 0} {o : Option X} {x : X} → o ≡ None → o ≡ Some x → ⊥
none_some p q = let r : None ≡ Some _ = sym p ∙ q in cc

pub same_program_stop : {text : List ℕ} {s t : Status} {f g : Refusal} → ProgramStops text s f → ProgramStops text t g → (IsFault s → ⊥) → IsFault t ⊎ ((t ≡ s) × (g ≡ f))
same_program_stop no_memory q n = absurd (n tt)
same_program_stop p no_memory n = inl tt
same_program_stop (by_text r) (by_text q) n = inr (refl, ap Refusal.TextOf (refused_same (program_one q r)))
same_program_stop (by_text r) (by_loading q e) n = absurd (not_both (program_one q.reads r))
same_program_stop (by_loading r e) (by_text q) n = absurd (not_both (program_one r.reads q))
same_program_stop (by_loading {e = cause} r e) (by_loading q h) n = inr (refl, ap Refusal.Loading (some_same (sym h ∙ subst (λ (z : List Clause). refusal_of z ≡ Some cause) (clauses_one r q) e)))

pub loaded_or_stopped : {text : List ℕ} {p : Program} {s : Status} {f : Refusal} → IsLoadedProgram text p → ProgramStops text s f → IsFault s
loaded_or_stopped l (by_text r) = absurd (not_both (program_one l.reads.reads r))
loaded_or_stopped l (by_loading r e) = absurd (none_some (subst (λ (z : List Clause). refusal_of z ≡ None) (clauses_one l.reads r) l.allowed) e)
loaded_or_stopped l no_memory = tt

-- ---- a query's text is refused in one way, over each program that the clauses stand for
adds_one : {old new other : List Callee} {callee : Callee} {d e : ℕ} → Adds old callee new d → Adds old callee other e → new ≡ other
adds_one (known p) (known q) = refl
adds_one (known p) (next a) = absurd (a.absent _ p)
adds_one (next a) (known p) = absurd (a.absent _ p)
adds_one (next a) (next b) = refl

collects_one : {old all other : List Callee} {cs : List Clause} → Collects old cs all → Collects old cs other → all ≡ other
collects_one keys.nothing keys.nothing = refl
collects_one {other = other} (keys.next {cs = more} a p) (keys.next b q) = collects_one p (subst (λ (z : List Callee). Collects z more other) (sym (adds_one a b)) q)

same_callees : {text : List ℕ} {p q : Program} → IsLoadedProgram text p → IsLoadedProgram text q → map called_by p.definitions ≡ map called_by q.definitions
same_callees {text} {p} {q} l k =
    collects_one l.stands.collected (subst (λ (z : List Clause). Collects [] (lifted_clauses z) (map called_by q.definitions)) (clauses_one k.reads l.reads) k.stands.collected)

same_refusal : (p q : Program) (asked : Query) → map called_by p.definitions ≡ map called_by q.definitions → query_refusal_of p asked ≡ query_refusal_of q asked
unfolding query_refusal_of
same_refusal p q asked e = rw e refl

-- a query that isn't refused over one program isn't over the other
none_other : {program : List ℕ} {p q : Program} (x y : Query) → IsLoadedProgram program p → IsLoadedProgram program q → x ≡ y → query_refusal_of p x ≡ None → query_refusal_of q y ≡ None
none_other {p = p} {q = q} x y l k e h = subst (λ (z : Query). query_refusal_of q z ≡ None) e (sym (same_refusal p q x (same_callees l k)) ∙ h)

some_other : {program : List ℕ} {p q : Program} {cause : _} (x y : Query) → IsLoadedProgram program p → IsLoadedProgram program q → x ≡ y → query_refusal_of p x ≡ Some cause → query_refusal_of q y ≡ Some cause
some_other {p = p} {q = q} {cause = cause} x y l k e h = subst (λ (z : Query). query_refusal_of q z ≡ Some cause) e (sym (same_refusal p q x (same_callees l k)) ∙ h)

pub same_query_stop : {program text : List ℕ} {p q : Program} {s t : Status} {f g : Refusal} → IsLoadedProgram program p → IsLoadedProgram program q → QueryStops p text s f → QueryStops q text t g → (IsFault s → ⊥)
    → IsFault t ⊎ ((t ≡ s) × (g ≡ f))
same_query_stop l k no_memory b n = absurd (n tt)
same_query_stop l k a no_memory n = inl tt
same_query_stop l k (by_text r) (by_text q) n = inr (refl, ap Refusal.TextOf (refused_same (query_verdict_one q r)))
same_query_stop l k (by_text r) (by_loading q e) n = absurd (not_both (query_verdict_one q.reads r))
same_query_stop l k (by_loading r e) (by_text q) n = absurd (not_both (query_verdict_one r.reads q))
same_query_stop l k (by_loading {q = x} r e) (by_loading {q = y} q h) n = inr (refl, ap Refusal.Loading (some_same (sym h ∙ some_other x y l k (query_one r q) e)))

pub asked_or_stopped : {program text : List ℕ} {p q : Program} {l : Loaded} {s : Status} {f : Refusal} → IsLoadedProgram program p → IsLoadedProgram program q → IsLoadedQuery p text l → QueryStops q text s f → IsFault s
asked_or_stopped a b l (by_text r) = absurd (not_both (query_verdict_one l.reads.reads r))
asked_or_stopped a b l (by_loading {q = y} r e) = absurd (none_some (none_other l.asked y a b (query_one l.reads r) l.allowed) e)
asked_or_stopped a b l no_memory = tt

-- ---- words ask for one thing

ok_same : {o k : Options} → ◌≡◌ {A = Result Options WordsError} (Ok o) (Ok k) → o ≡ k
ok_same e = cc

err_same : {e d : WordsError} → ◌≡◌ {A = Result Options WordsError} (Err e) (Err d) → e ≡ d
err_same p = cc

ok_or_err : {o : Options} {e : WordsError} → ◌≡◌ {A = Result Options WordsError} (Ok o) (Err e) → ⊥
ok_or_err p = cc

same_options : {words : List (List ℕ)} {o k : Options} → IsAskedBy words o → IsAskedBy words k → o ≡ k
same_options x y = ok_same (sym x.reads ∙ y.reads)

same_words_stop : {words : List (List ℕ)} {s t : Status} {f g : Refusal} → commands.WordsStop words s f → commands.WordsStop words t g → (IsFault s → ⊥) → IsFault t ⊎ ((t ≡ s) × (g ≡ f))
same_words_stop commands.no_memory q n = absurd (n tt)
same_words_stop p commands.no_memory n = inl tt
same_words_stop (commands.refused r) (commands.refused q) n = inr (refl, ap Refusal.Words (err_same (sym q ∙ r)))
same_words_stop (commands.refused r) (commands.long_query q h) n = absurd (ok_or_err (sym q ∙ r))
same_words_stop (commands.long_query r h) (commands.refused q) n = absurd (ok_or_err (sym r ∙ q))
same_words_stop (commands.long_query r h) (commands.long_query q k) n = inr (refl, ap (λ (o : Options). Refusal.TextOf (TooLong (length (query_of o)))) (ok_same (sym q ∙ r)))

asked_words : {words : List (List ℕ)} {o : Options} {s : Status} {f : Refusal} → IsAskedBy words o → commands.WordsStop words s f → IsFault s
asked_words a commands.no_memory = tt
asked_words a (commands.refused r) = absurd (ok_or_err (sym a.reads ∙ r))
asked_words a (commands.long_query r h) = let k = subst (λ (z : Options). length (query_of z) ≤ 10000) (ok_same (sym a.reads ∙ r)) a.short in absurd (omega (arith, k, h))

read_faults : {before after : Side} {s : Status} {f : Refusal} → commands.ReadStops before after s f → IsFault s
read_faults (fault r b) = tt
read_faults (commands.no_memory_read b) = tt

query_stop_of : {words : List (List ℕ)} {o k : Options} {p : Program} {s : Status} {f : Refusal} → IsAskedBy words o → IsAskedBy words k → QueryStops p (query_of k) s f → QueryStops p (query_of o) s f
query_stop_of {p = p} {s = s} {f = f} a b q = subst (λ (z : Options). QueryStops p (query_of z) s f) (sym (same_options a b)) q

-- no call failed, or one did
pub both : (before after : Side) → HasWorked before after → HasFaulted before after → ⊥
both before after w f = omega (arith, w, f)

fault_is : (s : Status) → IsFault s → (s ≡ Status.ReadFault) ⊎ (s ≡ Status.NoMemory)
fault_is Status.ReadFault f = inl refl
fault_is Status.NoMemory f = inr refl
fault_is Status.Done f = absurd f
fault_is Status.Failed f = absurd f
fault_is Status.Suspended f = absurd f
fault_is Status.Budget f = absurd f
fault_is Status.Words f = absurd f
fault_is Status.Program f = absurd f
fault_is Status.Query f = absurd f
fault_is Status.WriteFault f = absurd f

-- what follows of a command that stopped, or whose run was written
module _ (c : Command) where
  same_program : {o k : Options} {program bytes : List ℕ} → Asks c o program → IsAskedBy c.words k → IsGiven (program_of k) c.source c.source_after bytes → bytes ≡ program
  same_program {o} {k} {program} {bytes} a b g = same_given (program_of o) c.source c.source_after program bytes a.has (subst (λ (z : Options). IsGiven (program_of z) c.source c.source_after bytes) (sym (same_options a.asked b)) g)

  program_at : {o k : Options} {program bytes : List ℕ} {p : Program} → Asks c o program → IsAskedBy c.words k → IsGiven (program_of k) c.source c.source_after bytes → IsLoadedProgram bytes p → IsLoadedProgram program p
  program_at {p = p} a b g l = subst (λ (z : List ℕ). IsLoadedProgram z p) (same_program a b g) l

  stop_at : {o k : Options} {program bytes : List ℕ} {s : Status} {f : Refusal} → Asks c o program → IsAskedBy c.words k → IsGiven (program_of k) c.source c.source_after bytes → ProgramStops bytes s f → ProgramStops program s f
  stop_at {s = s} {f = f} a b g q = subst (λ (z : List ℕ). ProgramStops z s f) (same_program a b g) q

  words_stop : {s t : Status} {f g : Refusal} → commands.WordsStop c.words s f → (IsFault s → ⊥) → Stops c.words c.source c.source_after t g → IsFault t ⊎ ((t ≡ s) × (g ≡ f))
  words_stop p n (by_words w l) = same_words_stop p w n
  words_stop p n (by_reading a d r) = absurd (n (asked_words a p))
  words_stop p n (by_program a r q) = absurd (n (asked_words a p))
  words_stop p n (by_query a r l q) = absurd (n (asked_words a p))
  words_stop p n (by_run a r l q) = absurd (n (asked_words a p))

  program_stop : {o : Options} {program : List ℕ} {s t : Status} {f g : Refusal} → Asks c o program → ProgramStops program s f → (IsFault s → ⊥) → Stops c.words c.source c.source_after t g → IsFault t ⊎ ((t ≡ s) × (g ≡ f))
  program_stop a p n (by_words w l) = inl (asked_words a.asked w)
  program_stop a p n (by_reading b d r) = inl (read_faults r)
  program_stop a p n (by_program b r q) = same_program_stop p (stop_at a b r q) n
  program_stop a p n (by_query b r l q) = absurd (n (loaded_or_stopped (program_at a b r l) p))
  program_stop a p n (by_run b r l q) = absurd (n (loaded_or_stopped (program_at a b r l.is_program) p))

  query_stop : {o : Options} {program : List ℕ} {p : Program} {s t : Status} {f g : Refusal} → Asks c o program → IsLoadedProgram program p → QueryStops p (query_of o) s f → (IsFault s → ⊥)
      → Stops c.words c.source c.source_after t g → IsFault t ⊎ ((t ≡ s) × (g ≡ f))
  query_stop a l q n (by_words w m) = inl (asked_words a.asked w)
  query_stop a l q n (by_reading b d r) = inl (read_faults r)
  query_stop a l q n (by_program b r k) = inl (loaded_or_stopped l (stop_at a b r k))
  query_stop a l q n (by_query b r m k) = same_query_stop l (program_at a b r m) q (query_stop_of a.asked b k) n
  query_stop a l q n (by_run {l = loaded} b r m k) =
      absurd (n (asked_or_stopped (program_at a b r m.is_program) l (subst (λ (z : Options). IsLoadedQuery m.base (query_of z) loaded) (sym (same_options a.asked b)) m.is_query) q))

  -- a command whose query is loaded stops for a fault
  loaded_stop : {o : Options} {program : List ℕ} {l : Loaded} {t : Status} {g : Refusal} → Asks c o program → IsLoadedFrom program (query_of o) l → Stops c.words c.source c.source_after t g → IsFault t
  loaded_stop a m (by_words w l) = asked_words a.asked w
  loaded_stop a m (by_reading b d r) = read_faults r
  loaded_stop a m (by_program b r k) = loaded_or_stopped m.is_program (stop_at a b r k)
  loaded_stop a m (by_query b r l k) = asked_or_stopped m.is_program (program_at a b r l) m.is_query (query_stop_of a.asked b k)
  loaded_stop a m (by_run b r l reports.no_memory) = tt

  at_report : (P : Status → Refusal → Type 0) (stop : Stop) → IsStopped stop c.report → P stop.status stop.refusal → P c.report.status c.report.refusal
  at_report P stop i p = subst (λ (z : Status). P z c.report.refusal) (sym i.status) (subst (λ (z : Refusal). P stop.status z) (sym i.refusal) p)

  pub words_end : Ended c → WordsEnd c
  words_end (stopped stop q i w) = λ s f p n. at_report (λ t g. IsFault t ⊎ ((t ≡ s) × (g ≡ f))) stop i (words_stop p n q)
  words_end (ran run q i) = λ s f p n. absurd (n (asked_words q.asked p))

  pub program_ends : Ended c → ProgramEnds c
  program_ends (stopped stop q i w) = λ o program s f a p n. at_report (λ t g. IsFault t ⊎ ((t ≡ s) × (g ≡ f))) stop i (program_stop a p n q)
  program_ends (ran run q i) = λ o program s f a p n. absurd (n (loaded_or_stopped (program_at a q.asked q.given q.is_loaded.is_program) p))

  -- the query that was loaded is the one that the command asks for
  query_at : {o k : Options} {base : Program} {program : List ℕ} {l : Loaded} → Asks c o program → IsAskedBy c.words k → IsLoadedQuery base (query_of k) l → IsLoadedQuery base (query_of o) l
  query_at {base = base} {l = l} a b q = subst (λ (z : Options). IsLoadedQuery base (query_of z) l) (sym (same_options a.asked b)) q

  pub query_ends : Ended c → QueryEnds c
  query_ends (stopped stop q i w) = λ o program p s f a l k n. at_report (λ t g. IsFault t ⊎ ((t ≡ s) × (g ≡ f))) stop i (query_stop a l k n q)
  query_ends (ran run q i) = λ o program p s f a l k n. absurd (n (asked_or_stopped (program_at a q.asked q.given q.is_loaded.is_program) l (query_at a q.asked q.is_loaded.is_query) k))

  -- a fault that isn't want of memory is one of the source
  no_fault : (stop : Stop) → Stops c.words c.source c.source_after stop.status stop.refusal → IsStopped stop c.report → HasWorked c.source c.source_after → (c.report.status ≡ Status.NoMemory → ⊥) → IsFault stop.status → ⊥
  no_fault stop q i works memory f = on (fault_is stop.status f)
    where
      on : (stop.status ≡ Status.ReadFault) ⊎ (stop.status ≡ Status.NoMemory) → ⊥
      on (inl d) = both c.source c.source_after works (rose c.words c.source c.source_after q d)
      on (inr d) = memory (i.status ∙ d)

  -- a run whose writing ended without a fault or want of memory was written whole
  has_outcome : (e : Evaluated) → IsWritten e c.sink c.sink_after c.report → HasWorked c.sink c.sink_after → (c.report.status ≡ Status.NoMemory → ⊥) → IsOutcome c.report.status
  has_outcome e w works memory = on w.writing memory
    where
      on : {s : Status} → EndsWriting e (record { sink = c.sink; written = 0 }) (record { sink = c.sink_after; written = c.report.written }) s → (s ≡ Status.NoMemory → ⊥) → IsOutcome s
      on {s} (steps.whole h) m = status_runs s h.run.outcome h.is_status
      on (steps.fault b) m = absurd (both c.sink c.sink_after works b.is_cause)
      on (steps.memory b) m = absurd (m refl)

  pub complete : Ended c → IsComplete c
  complete (stopped stop q i w) = λ o program l a m works writes memory. absurd (no_fault stop q i works memory (loaded_stop a m q))
  complete (ran e q w) = λ o program l a m works writes memory. has_outcome e w writes memory
