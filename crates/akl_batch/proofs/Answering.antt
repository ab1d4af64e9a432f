-- The answer to one query.
use Rattle.std.proofs.Common.{◌≡◌, ◌<◌, ◌≤◌, ℕ, List, [], ◌++◌, length, map, Some, refl, sym, ap, ap₂, subst, ◌∙◌, ◌⊎◌, inl, inr}
use Rattle.akl_terms.specs.declared.program.Program.{Program}
use Rattle.akl_lexemes.specs.declared.error.SyntaxError.{SyntaxError}
use Rattle.akl_lexemes.specs.declared.error.SyntaxError.TheVariants.{TooLong}
use Rattle.akl_args.specs.declared.flag.Flags.{Flags}
use Rattle.akl_args.specs.Flags.{no_flags}
use Rattle.akl_run.specs.declared.report.Status.{Status}
use Rattle.akl_run.specs.declared.report.Refusal.{Refusal}
use Rattle.akl_run.specs.declared.report.Report.{Report}
use Rattle.akl_run.specs.declared.loaded.Loaded.{Loaded}
use Rattle.akl_run.specs.declared.evaluate.Evaluated.{Evaluated}
use Rattle.akl_run.specs.declared.stop.Stop.{Stop}
use Rattle.akl_run.specs.Loads.{IsLoadedProgram, QueryStops, by_text, by_loading, no_memory}
use Rattle.akl_run.specs.Text.{IsRunText}
use Rattle.akl_run.specs.Reports.{IsStatusOf}
use Rattle.akl_run.specs.Evaluations.{IsEvaluated}
use Rattle.akl_run.specs.Commands.{side}
use Rattle.akl_run.specs.Outputs.{Outlet}
use Rattle.akl_run.specs.Written.{HasWritten}
use Rattle.akl_run.specs.Stops.{IsStop}
use Rattle.akl_run.specs.Steps.{IsAnsweredAlone, IsWritten, EndsWriting, whole, fault, memory}
use Rattle.akl_run.proofs.Evaluated.{run_of}
use Rattle.akl_batch.specs.declared.text_sink.TextSink.{TextSink}
use Rattle.akl_batch.specs.declared.reply.Answer.{Answer}
use Rattle.akl_batch.specs.Replies.{IsRefusedFor, too_long, unloaded, ran, refused, refused_text, IsAnswer}
use Rattle.akl_batch.specs.Steps.{SaysWhy, IsTakenFrom, AnswersLoaded}

-- ---- a query that is refused

pub refused_answer : (program query : List ℕ) (budget : ℕ) (f : Refusal) (a : Answer) → IsRefusedFor program query f → SaysWhy f a → IsAnswer program query budget a
refused_answer program query budget f a w h = refused (record {
  status = h.status;
  why = subst (IsRefusedFor program query) (sym h.refusal) w;
  journal = h.journal;
  is_text = h.is_text ∙ ap refused_text (sym h.refusal);
})

pub long_answer : (program query : List ℕ) (budget : ℕ) (e : SyntaxError) (a : Answer) → 10000 < length query → e ≡ TooLong (length query) → SaysWhy (Refusal.TextOf e) a → IsAnswer program query budget a
long_answer program query budget e a long is h =
    refused_answer program query budget (Refusal.TextOf e) a (subst (λ (d : SyntaxError). IsRefusedFor program query (Refusal.TextOf d)) (sym is) (too_long long)) h

pub unloaded_answer : (program query : List ℕ) (budget : ℕ) (p : Program) (s : Status) (f : Refusal) (a : Answer) → length query ≤ 10000 → IsLoadedProgram program p → QueryStops p query s f → s ≡ Status.Query → SaysWhy f a → IsAnswer program query budget a
unloaded_answer program query budget p s f a short l q is h = refused_answer program query budget f a (unloaded short l (subst (λ (t : Status). QueryStops p query t f) is q)) h

is_stop : (stop : Stop) → stop.status ≡ Status.NoMemory → stop.refusal ≡ Refusal.Nothing → IsStop Status.NoMemory Refusal.Nothing stop
is_stop stop i j = let make : Status → Refusal → Stop = λ s f. record { status = s; refusal = f } in ap₂ make i j

query_or_memory : {p : Program} {query : List ℕ} {s : Status} {f : Refusal} → QueryStops p query s f → (s ≡ Status.Query) ⊎ ((s ≡ Status.NoMemory) × (f ≡ Refusal.Nothing))
query_or_memory (by_text r) = inl refl
query_or_memory (by_loading r e) = inl refl
query_or_memory no_memory = inr (refl, refl)

pub refused_or_memory : {p : Program} {query : List ℕ} (stop : Stop) → QueryStops p query stop.status stop.refusal → (stop.status ≡ Status.Query) ⊎ IsStop Status.NoMemory Refusal.Nothing stop
refused_or_memory stop q = on (query_or_memory q)
  where
    on : (stop.status ≡ Status.Query) ⊎ ((stop.status ≡ Status.NoMemory) × (stop.refusal ≡ Refusal.Nothing)) → (stop.status ≡ Status.Query) ⊎ IsStop Status.NoMemory Refusal.Nothing stop
    on (inl i) = inl i
    on (inr m) = inr (is_stop stop m.0 m.1)

-- ---- a query that was run

some_same : {X : Type 0} {x y : X} → Some x ≡ Some y → x ≡ y
some_same e = cc

written_whole : {e : Evaluated} {before after : Outlet} {s : Status} → EndsWriting e before after s → (s ≡ Status.WriteFault → ⊥) → (s ≡ Status.NoMemory → ⊥) → HasWritten e before after s
written_whole (whole w) n m = w
written_whole (fault b) n m = absurd (n refl)
written_whole (memory b) n m = absurd (m refl)

module _ (l : Loaded) (budget : ℕ) (e : Evaluated) (i : IsEvaluated l 1 budget no_flags e) where
  taken_from : (r : Report) (start sink : TextSink) (a : Answer) → start.bytes.items ≡ [] → IsWritten e (side (Some start.bytes.items) start.faults) (side (Some sink.bytes.items) sink.faults) r → IsTakenFrom r sink a
      → HasWritten e (record { sink = side (Some start.bytes.items) start.faults; written = 0 }) (record { sink = side (Some sink.bytes.items) sink.faults; written = r.written }) r.status → AnswersLoaded l budget a
  taken_from r start sink a none w t h program query short is =
      let journal : a.reply.journal.items ≡ e.core.journal = ap (λ v. v.items) t.journal ∙ w.journal in
      let bytes : sink.bytes.items ≡ start.bytes.items ++ h.text = some_same h.appended.bytes in
      let text : a.text.items ≡ h.text = ap (λ v. v.items) t.is_text ∙ bytes ∙ ap (λ (bs : List ℕ). bs ++ h.text) none in
      ran (record {
        short = short;
        run = h.run;
        is_status = subst (λ (s : Status). IsStatusOf s h.run.outcome) (sym t.status) h.is_status;
        receipts = map (λ rs. rs.items) e.receipts.items;
        is_run = run_of l 1 budget no_flags e i h.run h.has_run program query is;
        journal = journal ∙ sym h.has_run.journal;
        is_text = subst (λ (f : Flags). IsRunText f h.run a.text.items) i.same_flags (subst (IsRunText e.flags h.run) (sym text) h.is_text);
        refusal = t.refusal ∙ w.refusal;
      })

  answers_so : (r : Report) (start sink : TextSink) (a : Answer) → start.bytes.items ≡ [] → IsWritten e (side (Some start.bytes.items) start.faults) (side (Some sink.bytes.items) sink.faults) r → IsTakenFrom r sink a → AnswersLoaded l budget a
  answers_so r start sink a none w t = taken_from r start sink a none w t (written_whole w.writing t.whole t.memory)

pub answers_loaded : (l : Loaded) (budget : ℕ) (r : Report) (start sink : TextSink) (a : Answer) → start.bytes.items ≡ [] → IsAnsweredAlone l budget (side (Some start.bytes.items) start.faults) (side (Some sink.bytes.items) sink.faults) r → IsTakenFrom r sink a
    → AnswersLoaded l budget a
answers_loaded l budget r start sink a none w t = answers_so l budget w.run w.evaluated r start sink a none w.written t
