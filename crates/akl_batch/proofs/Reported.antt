-- What a report says follows from how its batch ended.
use Rattle.std.proofs.Common.{◌≡◌, ℕ, List, [], ◌++◌, length, take, map, Some, Result, Ok, Err, refl, sym, ap, subst, ◌∙◌, ◌⊎◌, inl, inr, append-nil}
use Rattle.std.specs.Io.KnownBytes.{append_known}
use Rattle.akl_terms.specs.declared.program.Program.{Program}
use Rattle.akl_args.specs.declared.batch.BatchOptions.{BatchOptions}
use Rattle.akl_args.specs.declared.options.WordsError.{WordsError}
use Rattle.akl_args.specs.Batches.{batch_reading}
use Rattle.akl_args.specs.Queries.{queries_in}
use Rattle.akl_run.specs.declared.report.Status.{Status}
use Rattle.akl_run.specs.declared.report.Refusal.{Refusal}
use Rattle.akl_run.specs.declared.stop.Stop.{Stop}
use Rattle.akl_run.specs.Loads.{IsLoadedProgram, ProgramStops}
use Rattle.akl_run.specs.Loads as loads
use Rattle.akl_run.specs.Commands.{Side, HasFaulted, HasWorked, fault, no_memory_read, IsFault}
use Rattle.akl_run.proofs.Exact.{read_front, same_program_stop, loaded_or_stopped, both}
use Rattle.akl_batch.specs.declared.reply.Answer.{Answer}
use Rattle.akl_batch.specs.declared.reply.Reply.{Reply}
use Rattle.akl_batch.specs.Replies.{AreReplies}
use Rattle.akl_batch.specs.Batches.{Batch, IsAskedBy, Stops, by_words, by_reading, by_program, Wrote, WroteAll, WrotePart, WroteNothing, IsEarly, IsLate, IsUnlessFault, WordsEnd, Asks, ProgramEnds, IsComplete, IsBatchReported}
use Rattle.akl_batch.specs.Batches as batches
use Rattle.akl_batch.specs.Steps.{AreAnswersOf, AreGathered, EndsWriting, IsWritten, IsStopped}
use Rattle.akl_batch.specs.Steps as steps
use Rattle.akl_batch.proofs.Own.{are_replies}

-- how a batch ended: it stopped early, or its text was written, or a front of it
pub data Ended (b : Batch) : Type 0 where
  stopped : (stop : Stop) → Stops b.words b.source b.source_after stop.status stop.refusal → IsStopped stop b.report → b.sink_after.bytes ≡ b.sink.bytes → Ended b
  answered : (answers : List Answer) (replies : List Reply) (text : List ℕ) → AreAnswersOf b.words b.source b.source_after answers → AreGathered answers replies text → IsWritten replies text b.sink b.sink_after b.report → Ended b

not_both : (s : Status) → IsEarly s → IsLate s → ⊥
not_both Status.Done e l = e
not_both Status.Failed e l = e
not_both Status.Suspended e l = e
not_both Status.Budget e l = e
not_both Status.Words e l = l
not_both Status.Program e l = l
not_both Status.Query e l = l
not_both Status.ReadFault e l = l
not_both Status.WriteFault e l = e
not_both Status.NoMemory e l = l

late_done : {s : Status} → s ≡ Status.Done → IsLate s
late_done e = subst IsLate (sym e) tt

late_fault : {s : Status} → s ≡ Status.WriteFault → IsLate s
late_fault e = subst IsLate (sym e) tt

ok_or_err : {o : BatchOptions} {e : WordsError} → ◌≡◌ {A = Result BatchOptions WordsError} (Ok o) (Err e) → ⊥
ok_or_err p = cc

err_same : {e d : WordsError} → ◌≡◌ {A = Result BatchOptions WordsError} (Err e) (Err d) → e ≡ d
err_same p = cc

module _ (words : List (List ℕ)) (before after : Side) where
  -- a batch that stops has no replies
  early_stop : {s : Status} {f : Refusal} → Stops words before after s f → IsEarly s
  early_stop (by_words (batches.refused r) l) = tt
  early_stop (by_words batches.no_memory l) = tt
  early_stop (by_reading a (fault r b)) = tt
  early_stop (by_reading a (no_memory_read b)) = tt
  early_stop (by_program a r (loads.by_text e)) = tt
  early_stop (by_program a r (loads.by_loading e g)) = tt
  early_stop (by_program a r loads.no_memory) = tt

  -- the cause of a read fault
  rose : {s : Status} {f : Refusal} → Stops words before after s f → s ≡ Status.ReadFault → HasFaulted before after
  rose (by_words (batches.refused r) l) d = absurd cc
  rose (by_words batches.no_memory l) d = absurd cc
  rose (by_reading a (fault r b)) d = r
  rose (by_reading a (no_memory_read b)) d = absurd cc
  rose (by_program a r (loads.by_text e)) d = absurd cc
  rose (by_program a r (loads.by_loading e g)) d = absurd cc
  rose (by_program a r loads.no_memory) d = absurd cc

  -- where the words are refused, a batch stops so
  words_stop : {s : Status} {f : Refusal} {e : WordsError} → batch_reading words ≡ Err e → Stops words before after s f → IsFault s ⊎ ((s ≡ Status.Words) × (f ≡ Refusal.Words e))
  words_stop p (by_words (batches.refused r) l) = inr (refl, ap Refusal.Words (err_same (sym r ∙ p)))
  words_stop p (by_words batches.no_memory l) = inl tt
  words_stop p (by_reading a r) = absurd (ok_or_err (sym a ∙ p))
  words_stop p (by_program a r q) = absurd (ok_or_err (sym a ∙ p))

  -- where the program is refused, it stops so
  program_stop : {o : BatchOptions} {program text : List ℕ} {s t : Status} {f g : Refusal} → IsAskedBy words o → before.bytes ≡ Some text → program ≡ take 1000001 text → ProgramStops program s f → (IsFault s → ⊥)
      → Stops words before after t g → IsFault t ⊎ ((t ≡ s) × (g ≡ f))
  program_stop a h e p n (by_words (batches.refused r) l) = absurd (ok_or_err (sym a ∙ r))
  program_stop a h e p n (by_words batches.no_memory l) = inl tt
  program_stop a h e p n (by_reading b (fault r k)) = inl tt
  program_stop a h e p n (by_reading b (no_memory_read k)) = inl tt
  program_stop {text = text} {s = s} {f = f} a h e p n (by_program {program = bytes} b r q) =
      same_program_stop (subst (λ (z : List ℕ). ProgramStops z s f) (e ∙ sym (read_front before after text bytes h r)) p) q n

  -- an accepted program isn't refused, where the source works and there is memory
  none_stops : {o : BatchOptions} {program text : List ℕ} {p : Program} {s : Status} {f : Refusal} → IsAskedBy words o → before.bytes ≡ Some text → program ≡ take 1000001 text → IsLoadedProgram program p → HasWorked before after
      → (s ≡ Status.NoMemory → ⊥) → Stops words before after s f → ⊥
  none_stops a h e l w n (by_words (batches.refused r) k) = ok_or_err (sym a ∙ r)
  none_stops a h e l w n (by_words batches.no_memory k) = n refl
  none_stops a h e l w n (by_reading b (fault r k)) = both before after w r
  none_stops a h e l w n (by_reading b (no_memory_read k)) = n refl
  none_stops {text = text} {p = p} {s = s} a h e l w n (by_program {program = bytes} b r q) =
      only_memory (loaded_or_stopped (subst (λ (z : List ℕ). IsLoadedProgram z p) (e ∙ sym (read_front before after text bytes h r)) l) q) q n
    where
      only_memory : {text : List ℕ} {s : Status} {f : Refusal} → IsFault s → ProgramStops text s f → (s ≡ Status.NoMemory → ⊥) → ⊥
      only_memory i (loads.by_text e) m = i
      only_memory i (loads.by_loading e g) m = i
      only_memory i loads.no_memory m = m refl

module _ (b : Batch) where
  abbrev Stopped : Type 0
  Stopped = Stops b.words b.source b.source_after b.report.status b.report.refusal

  -- the report of a batch that stopped
  stopped_reported : Stopped → WroteNothing b → IsBatchReported b
  stopped_reported q w =
      let early : IsEarly b.report.status = early_stop b.words b.source b.source_after q in
      record {
        done = λ d. absurd (not_both b.report.status early (late_done d));
        write_fault = λ d. absurd (not_both b.report.status early (late_fault d));
        written_part = λ d. absurd (not_both b.report.status early (late_fault d));
        nothing = λ e. w;
        stops = λ e. q;
        read_fault = rose b.words b.source b.source_after q;
        words = λ e r. words_stop b.words b.source b.source_after r q;
        program = λ o program s f a p n. program_stop b.words b.source b.source_after a.asked a.has a.is_front p n q;
        complete = λ o program p a l k m n. absurd (none_stops b.words b.source b.source_after a.asked a.has a.is_front l k n q);
        status = inl early;
        refusal = λ l. absurd (not_both b.report.status early l);
      }

  as_stopped : (stop : Stop) → Stops b.words b.source b.source_after stop.status stop.refusal → IsStopped stop b.report → Stopped
  as_stopped stop q i = subst (λ (s : Status). Stops b.words b.source b.source_after s b.report.refusal) (sym i.status) (subst (Stops b.words b.source b.source_after stop.status) (sym i.refusal) q)

  -- what was written of the text of answers
  wrote : (answers : List Answer) (replies : List Reply) (text front rest : List ℕ) → AreAnswersOf b.words b.source b.source_after answers → AreGathered answers replies text → b.report.replies.items ≡ replies → front ++ rest ≡ text
      → b.sink_after.bytes ≡ append_known b.sink.bytes front → b.report.written ≡ length front → Wrote b front rest
  wrote answers replies text front rest a g r p k n = record {
    options = a.options;
    asked = a.asked;
    program = a.program;
    given = a.given;
    base = a.base;
    is_program = a.is_program;
    texts = map (λ x. x.text.items) answers;
    are_replies = subst (λ (rs : List Reply). AreReplies a.program a.options.budget (queries_in a.options.text) rs (map (λ x. x.text.items) answers)) (sym (r ∙ g.replies)) (are_replies a.program a.options.budget (queries_in a.options.text) answers a.are_answers);
    whole = p ∙ g.is_text;
    wrote = k;
    count = n;
  }

  -- how the writing ended
  data Written (answers : List Answer) : Type 0 where
    whole : b.report.status ≡ Status.Done → WroteAll b → Written answers
    part : b.report.status ≡ Status.WriteFault → HasFaulted b.sink b.sink_after → WrotePart b → Written answers

  written : (answers : List Answer) (replies : List Reply) (text : List ℕ) → AreAnswersOf b.words b.source b.source_after answers → AreGathered answers replies text → b.report.replies.items ≡ replies → (s : Status) (n : ℕ)
      → b.report.status ≡ s → b.report.written ≡ n → EndsWriting b.sink b.sink_after text s n → Written answers
  written answers replies text a g r s n i j (steps.whole k) = whole i (text, wrote answers replies text text [] a g r (append-nil text) k j)
  written answers replies text a g r s n i j (steps.fault front rest p more k f) = part i f (front, rest, more, wrote answers replies text front rest a g r p k j)

  -- the program is accepted
  accepted : {answers : List Answer} {o : BatchOptions} {program : List ℕ} {s : Status} {f : Refusal} → AreAnswersOf b.words b.source b.source_after answers → Asks b o program → ProgramStops program s f → (IsFault s → ⊥) → ⊥
  accepted {s = s} {f = f} a k p n = n (loaded_or_stopped a.is_program (subst (λ (z : List ℕ). ProgramStops z s f) (k.is_front ∙ sym (read_front b.source b.source_after k.text a.program k.has a.given)) p))

  answered_reported : (answers : List Answer) → AreAnswersOf b.words b.source b.source_after answers → b.report.refusal ≡ Refusal.Nothing → Written answers → IsBatchReported b
  answered_reported answers a none (whole i w) = record {
    done = λ d. w;
    write_fault = λ d. let e : Status.Done ≡ Status.WriteFault = sym i ∙ d in absurd cc;
    written_part = λ d. let e : Status.Done ≡ Status.WriteFault = sym i ∙ d in absurd cc;
    nothing = λ e. absurd (not_both b.report.status e (late_done i));
    stops = λ e. absurd (not_both b.report.status e (late_done i));
    read_fault = λ d. let e : Status.Done ≡ Status.ReadFault = sym i ∙ d in absurd cc;
    words = λ e r. absurd (ok_or_err (sym a.asked ∙ r));
    program = λ o program s f k p n. absurd (accepted a k p n);
    complete = λ o program p k l m n x. i;
    status = inr (late_done i);
    refusal = λ l. none;
  }
  answered_reported answers a none (part i faulted w) = record {
    done = λ d. let e : Status.WriteFault ≡ Status.Done = sym i ∙ d in absurd cc;
    write_fault = λ d. faulted;
    written_part = λ d. w;
    nothing = λ e. absurd (not_both b.report.status e (late_fault i));
    stops = λ e. absurd (not_both b.report.status e (late_fault i));
    read_fault = λ d. let e : Status.WriteFault ≡ Status.ReadFault = sym i ∙ d in absurd cc;
    words = λ e r. absurd (ok_or_err (sym a.asked ∙ r));
    program = λ o program s f k p n. absurd (accepted a k p n);
    complete = λ o program p k l m n x. absurd (both b.sink b.sink_after n faulted);
    status = inr (late_fault i);
    refusal = λ l. none;
  }

  pub reported : Ended b → IsBatchReported b
  reported (stopped stop q i same) = stopped_reported (as_stopped stop q i) (record { replies = i.replies; count = i.written; same = same })
  reported (answered answers replies text a g w) = answered_reported answers a w.refusal (written answers replies text a g w.replies b.report.status b.report.written refl refl w.writing)
