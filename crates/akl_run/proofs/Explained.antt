-- What a report says follows from how its command ended.
use Rattle.std.proofs.Common.{◌≡◌, ℕ, ◌+◌, List, length, map, refl, sym, ◌∙◌, ap, subst, ◌⊎◌, inl, inr, Vec, Global, arith}
use Rattle.akl_model.specs.declared.label.Receipt.{Receipt}
use Rattle.tree_models.specs.declared.model.TreeModel.{TreeModel}
use Rattle.akl_args.specs.declared.flag.Flags.{Flags}
use Rattle.akl_run.specs.declared.report.Status.{Status}
use Rattle.akl_run.specs.declared.report.Refusal.{Refusal}
use Rattle.akl_run.specs.declared.evaluate.Evaluated.{Evaluated}
use Rattle.akl_run.specs.declared.output.Unwritten.{Unwritten}
use Rattle.akl_run.specs.declared.stop.Stop.{Stop}
use Rattle.akl_run.specs.Loads as loads
use Rattle.akl_run.specs.Text.{IsRunText, IsRunFront}
use Rattle.akl_run.specs.Runs.{Run}
use Rattle.akl_run.specs.Words.{query_of}
use Rattle.akl_run.specs.Reports.{IsStatusOf, IsRunOf}
use Rattle.akl_run.specs.Reports as reports
use Rattle.akl_run.specs.Commands.{Side, HasFaulted, Command, Stops, by_words, by_reading, by_program, by_query, by_run, ReportsRun, WroteRun, WrotePart, WroteNothing, RanOut, before_writing, in_writing, IsEarly, IsLate, IsOutcome}
use Rattle.akl_run.specs.Commands as commands
use Rattle.akl_run.specs.Outputs.{Outlet}
use Rattle.akl_run.specs.Written.{HasRun, HasWritten, BreaksOff}
use Rattle.akl_run.specs.Steps.{IsRunAs, IsStopped, IsWritten, EndsWriting, whole, fault, memory}
use Rattle.akl_run.proofs.Evaluated.{run_of}

-- how a command ended: it stopped early, or its run was written, or a front of it
pub data Ended (c : Command) : Type 0 where
  stopped : (stop : Stop) → Stops c.words c.source c.source_after stop.status stop.refusal → IsStopped stop c.report → c.sink_after.bytes ≡ c.sink.bytes → Ended c
  ran : (e : Evaluated) → IsRunAs c.words c.source c.source_after e → IsWritten e c.sink c.sink_after c.report → Ended c

pub status_runs : (s : Status) (o : _) → IsStatusOf s o → IsOutcome s
status_runs Status.Done o i = tt
status_runs Status.Failed o i = tt
status_runs Status.Suspended o i = tt
status_runs Status.Budget o i = tt
status_runs Status.Words o i = absurd i
status_runs Status.Program o i = absurd i
status_runs Status.Query o i = absurd i
status_runs Status.ReadFault o i = absurd i
status_runs Status.WriteFault o i = absurd i
status_runs Status.NoMemory o i = absurd i

late_run : (s : Status) → IsOutcome s → IsLate s
late_run Status.Done e = tt
late_run Status.Failed e = tt
late_run Status.Suspended e = tt
late_run Status.Budget e = tt
late_run Status.Words e = absurd e
late_run Status.Program e = absurd e
late_run Status.Query e = absurd e
late_run Status.ReadFault e = absurd e
late_run Status.WriteFault e = absurd e
late_run Status.NoMemory e = absurd e

not_both : (s : Status) → IsEarly s → IsLate s → ⊥
not_both Status.Done e l = e
not_both Status.Failed e l = e
not_both Status.Suspended e l = e
not_both Status.Budget e l = e
not_both Status.Words e l = l
not_both Status.Program e l = l
not_both Status.Query e l = l
not_both Status.ReadFault e l = l
not_both Status.WriteFault e l = e
not_both Status.NoMemory e l = e

-- what a stop is: a call of the source failed, memory was wanting, or another early end
data Stopping (before after : Side) : Status → Refusal → Type 0 where
  failed_read : {f : Refusal} → HasFaulted before after → Stopping before after Status.ReadFault f
  out_of_memory : Stopping before after Status.NoMemory Refusal.Nothing
  other : {s : Status} {f : Refusal} → IsEarly s → (s ≡ Status.ReadFault → ⊥) → Stopping before after s f

module _ (words : List (List ℕ)) (before after : Side) where
  stopping : {s : Status} {f : Refusal} → Stops words before after s f → Stopping before after s f
  stopping (by_words (commands.refused r) l) = other tt (λ d. cc)
  stopping (by_words (commands.long_query q h) l) = other tt (λ d. cc)
  stopping (by_words commands.no_memory l) = out_of_memory
  stopping (by_reading a d (commands.fault r b)) = failed_read r
  stopping (by_reading a d (commands.no_memory_read b)) = out_of_memory
  stopping (by_program a b (loads.by_text e)) = other tt (λ d. cc)
  stopping (by_program a b (loads.by_loading e g)) = other tt (λ d. cc)
  stopping (by_program a b loads.no_memory) = out_of_memory
  stopping (by_query a b p (loads.by_text e)) = other tt (λ d. cc)
  stopping (by_query a b p (loads.by_loading e g)) = other tt (λ d. cc)
  stopping (by_query a b p loads.no_memory) = out_of_memory
  stopping (by_run a b l reports.no_memory) = out_of_memory

  -- a command that stops has an early status, or memory was wanting
  early_or : {s : Status} {f : Refusal} → Stopping before after s f → IsEarly s ⊎ ((s ≡ Status.NoMemory) × (f ≡ Refusal.Nothing))
  early_or (failed_read r) = inl tt
  early_or out_of_memory = inr (refl, refl)
  early_or (other e r) = inl e

  -- the cause of a read fault
  read_failed : {s : Status} {f : Refusal} → Stopping before after s f → s ≡ Status.ReadFault → HasFaulted before after
  read_failed (failed_read r) d = r
  read_failed out_of_memory d = absurd cc
  read_failed (other e r) d = absurd (r d)

  pub early_stop : {s : Status} {f : Refusal} → Stops words before after s f → IsEarly s ⊎ ((s ≡ Status.NoMemory) × (f ≡ Refusal.Nothing))
  early_stop q = early_or (stopping q)

  pub rose : {s : Status} {f : Refusal} → Stops words before after s f → s ≡ Status.ReadFault → HasFaulted before after
  rose q = read_failed (stopping q)

-- how a run's writing ended
module _ (e : Evaluated) (before after : Outlet) where
  writing_late : {s : Status} → EndsWriting e before after s → IsLate s
  writing_late {s} (whole w) = late_run s (status_runs s w.run.outcome w.is_status)
  writing_late (fault b) = tt
  writing_late (memory b) = tt

  written_whole : {s : Status} → EndsWriting e before after s → IsOutcome s → HasWritten e before after s
  written_whole (whole w) d = w
  written_whole (fault b) d = absurd d
  written_whole (memory b) d = absurd d

  not_outcome : {s : Status} → HasWritten e before after s → (IsOutcome s → ⊥) → ⊥
  not_outcome {s} w n = n (status_runs s w.run.outcome w.is_status)

  at_fault : {s : Status} → EndsWriting e before after s → s ≡ Status.WriteFault → BreaksOff e before after Unwritten.Fault
  at_fault (whole w) d = absurd (not_outcome w (λ o. subst IsOutcome d o))
  at_fault (fault b) d = b
  at_fault (memory b) d = absurd cc

  at_no_memory : {s : Status} → EndsWriting e before after s → s ≡ Status.NoMemory → BreaksOff e before after Unwritten.Memory
  at_no_memory (whole w) d = absurd (not_outcome w (λ o. subst IsOutcome d o))
  at_no_memory (fault b) d = absurd cc
  at_no_memory (memory b) d = b

module _ (c : Command) where
  abbrev start : Outlet
  start = record { sink = c.sink; written = 0 }

  abbrev end : Outlet
  end = record { sink = c.sink_after; written = c.report.written }

  stopped_so : (stop : Stop) → Stops c.words c.source c.source_after stop.status stop.refusal → IsStopped stop c.report → Stops c.words c.source c.source_after c.report.status c.report.refusal
  stopped_so stop q s =
      subst (λ (z : Status). Stops c.words c.source c.source_after z c.report.refusal) (sym s.status) (subst (λ (z : Refusal). Stops c.words c.source c.source_after stop.status z) (sym s.refusal) q)

  -- a command that stopped has none of the statuses of a run, but want of memory
  not_stopped : (stop : Stop) → Stops c.words c.source c.source_after stop.status stop.refusal → IsStopped stop c.report → IsLate c.report.status → (c.report.status ≡ Status.NoMemory → ⊥) → ⊥
  not_stopped stop q s d n = on (early_stop c.words c.source c.source_after (stopped_so stop q s))
    where
      on : IsEarly c.report.status ⊎ ((c.report.status ≡ Status.NoMemory) × (c.report.refusal ≡ Refusal.Nothing)) → ⊥
      on (inl e) = not_both c.report.status e d
      on (inr m) = n m.0

  unwritten : (stop : Stop) → IsStopped stop c.report → c.sink_after.bytes ≡ c.sink.bytes → WroteNothing c
  unwritten stop s w = record { journal = s.journal; receipts = s.receipts; models = s.models; count = s.written; same = w }

  late_written : (e : Evaluated) → IsWritten e c.sink c.sink_after c.report → IsLate c.report.status
  late_written e w = writing_late e start end w.writing

  -- the report of an early status
  pub stops : Ended c → IsEarly c.report.status → Stops c.words c.source c.source_after c.report.status c.report.refusal
  stops (stopped stop q s w) d = stopped_so stop q s
  stops (ran e q w) d = absurd (not_both c.report.status d (late_written e w))

  pub nothing_written : Ended c → IsEarly c.report.status → WroteNothing c
  nothing_written (stopped stop q s w) d = unwritten stop s w
  nothing_written (ran e q w) d = absurd (not_both c.report.status d (late_written e w))

  -- a whole text
  counted : (n : ℕ) → c.report.written ≡ 0 + n → c.report.written ≡ n
  counted n h = omega (arith, h)

  -- the report of a run that was written, or of which a front was
  reports_run : (e : Evaluated) (q : IsRunAs c.words c.source c.source_after e) → IsWritten e c.sink c.sink_after c.report → (r : Run) → HasRun e r → ReportsRun c q.options r
  reports_run e q w r h = record {
    program = q.program;
    asked = q.asked;
    given = q.given;
    is_run = subst (λ (v : Vec (Vec Receipt Global) Global). IsRunOf q.program (query_of q.options) q.options.workers q.options.budget q.options.flags.model r (map (λ rs. rs.items) v.items)) (sym w.receipts)
        (run_of q.loaded q.options.workers q.options.budget q.options.flags e q.run r h q.program (query_of q.options) q.is_loaded);
    journal = w.journal ∙ sym h.journal;
    models = ap (λ (v : Vec TreeModel Global). v.items) w.models ∙ sym h.models;
  }

  whole_run : (e : Evaluated) → IsRunAs c.words c.source c.source_after e → IsWritten e c.sink c.sink_after c.report → HasWritten e start end c.report.status → WroteRun c
  whole_run e q w h = record {
    options = q.options;
    run = h.run;
    reports = reports_run e q w h.run h.has_run;
    is_status = h.is_status;
    text = h.text;
    is_text = subst (λ (f : Flags). IsRunText f h.run h.text) q.run.same_flags h.is_text;
    wrote = h.appended.bytes;
    count = counted (length h.text) h.appended.counted;
  }

  pub wrote_run : Ended c → IsOutcome c.report.status → WroteRun c
  wrote_run (stopped stop q s w) d = absurd (not_stopped stop q s (late_run c.report.status d) (λ m. subst IsOutcome m d))
  wrote_run (ran e q w) d = whole_run e q w (written_whole e start end w.writing d)

  -- a front of a text
  part_run : (e : Evaluated) → IsRunAs c.words c.source c.source_after e → IsWritten e c.sink c.sink_after c.report → (cause : Unwritten) → BreaksOff e start end cause → WrotePart c
  part_run e q w cause b = record {
    options = q.options;
    run = b.run;
    reports = reports_run e q w b.run b.has_run;
    front = b.front;
    is_front = subst (λ (f : Flags). IsRunFront f b.run b.front) q.run.same_flags b.is_front;
    wrote = b.appended.bytes;
    count = counted (length b.front) b.appended.counted;
  }

  pub wrote_part : Ended c → c.report.status ≡ Status.WriteFault → WrotePart c × HasFaulted c.sink c.sink_after
  wrote_part (stopped stop q s w) d = absurd (not_stopped stop q s (subst IsLate (sym d) tt) (λ m. let e : Status.WriteFault ≡ Status.NoMemory = sym d ∙ m in cc))
  wrote_part (ran e q w) d = let b = at_fault e start end w.writing d in (part_run e q w Unwritten.Fault b, b.is_cause)

  -- want of memory
  pub ran_out : Ended c → c.report.status ≡ Status.NoMemory → RanOut c
  ran_out (stopped stop q s w) d = before_writing (unwritten stop s w) (stopped_so stop q s)
  ran_out (ran e q w) d = in_writing (part_run e q w Unwritten.Memory (at_no_memory e start end w.writing d))

  pub read_fault : Ended c → c.report.status ≡ Status.ReadFault → HasFaulted c.source c.source_after
  read_fault k d = rose c.words c.source c.source_after (stops k (subst IsEarly (sym d) tt)) d

  pub unrefused : Ended c → IsLate c.report.status → c.report.refusal ≡ Refusal.Nothing
  unrefused (stopped stop q s w) d = on (early_stop c.words c.source c.source_after (stopped_so stop q s))
    where
      on : IsEarly c.report.status ⊎ ((c.report.status ≡ Status.NoMemory) × (c.report.refusal ≡ Refusal.Nothing)) → c.report.refusal ≡ Refusal.Nothing
      on (inl e) = absurd (not_both c.report.status e d)
      on (inr m) = m.1
  unrefused (ran e q w) d = w.refusal
