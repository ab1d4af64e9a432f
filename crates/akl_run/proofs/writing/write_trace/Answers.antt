use Rattle.std.proofs.Common.{◌≡◌, ◌+◌, ◌++◌, take, drop, get_or, ap, sym, subst, ◌∙◌}
use Rattle.akl_run.specs.Traces.{trace_line, trace_lines, trace_text}
use Rattle.akl_run.specs.Outputs.{outlet, HasAppended}
use Rattle.akl_run.proofs.Appended.{appended_both, no_memory_behind, broke_within}
use Rattle.akl_run.proofs.Loading.{from_error}
use Rattle.akl_run.proofs.Traced.{traced, lines_next, lines_behind, line_between, any_label}
use Rattle.akl_run.proofs.writing.write_trace.Goals as goal

pub returns-in_err-line-clause-broken : goal.returns-in_err-line-clause-broken
returns-in_err-line-clause-broken g c =
    let n = c.loop-label.label-index in
    from_error c.from_residual.result c.from_residual.ensures.1 (λ cause p. rw p
    (no_memory_behind (trace_lines 1 (take n c.args.journal.now)) (trace_lines (n + 1) (drop n c.args.journal.now)) c.loop-label.invariant.appended
    (lines_behind 1 c.args.journal.now n ∙ traced c.args.trace c.args.journal.now c.if-not-trace.false)))

pub returns-in_err-append-clause-broken : goal.returns-in_err-append-clause-broken
returns-in_err-append-clause-broken g c =
    let n = c.loop-label.label-index in
    let line : c.deref.result.now ≡ trace_line (n + 1) (get_or c.args.journal.now n any_label) =
    c.deref.ensures.value ∙ c.in_ok-line.ensures ∙ ap (λ m. trace_line (m + 1) (get_or c.args.journal.now n any_label)) c.loop-label.invariant.counted in
    from_error c.from_residual-in_err-append.result c.from_residual-in_err-append.ensures.1 (λ cause p. rw p
    (broke_within (trace_lines 1 (take n c.args.journal.now)) c.deref.result.now (trace_lines ((n + 1) + 1) (drop (n + 1) c.args.journal.now)) (trace_text c.args.trace c.args.journal.now)
    (ap (λ xs. trace_lines 1 (take n c.args.journal.now) ++ (xs ++ trace_lines ((n + 1) + 1) (drop (n + 1) c.args.journal.now))) line
    ∙ line_between 1 c.args.journal.now n any_label c.loop-label-test.true ∙ traced c.args.trace c.args.journal.now c.if-not-trace.false)
    c.loop-label.invariant.appended c.in_err-append.ensures.broken))

pub loop-label-preserved : goal.loop-label-preserved
loop-label-preserved g c =
    let n = c.loop-label.label-index in
    let line : c.deref.result.now ≡ trace_line (n + 1) (get_or c.args.journal.now n any_label) =
    c.deref.ensures.value ∙ c.in_ok-line.ensures ∙ ap (λ m. trace_line (m + 1) (get_or c.args.journal.now n any_label)) c.loop-label.invariant.counted in
    record {
      appended = subst (HasAppended
          (outlet (g.K.Sink.written c.args.out.now.sink.now) (g.K.Sink.faults c.args.out.now.sink.now) c.args.out.now.written)
          (outlet (g.K.Sink.written c.append.new.self.sink.now) (g.K.Sink.faults c.append.new.self.sink.now) c.append.new.self.written))
          (ap (λ xs. trace_lines 1 (take n c.args.journal.now) ++ xs) line ∙ sym (lines_next 1 c.args.journal.now n any_label c.loop-label-test.true))
          (appended_both (trace_lines 1 (take n c.args.journal.now)) c.deref.result.now c.loop-label.invariant.appended c.in_ok-append.ensures.whole);
      counted = ap (λ m. m + 1) c.loop-label.invariant.counted;
      same = c.in_ok-append.ensures.same ∙ c.loop-label.invariant.same;
    }
