use Rattle.std.proofs.Common.{◌≡◌, take}
use Rattle.akl_run.specs.Traces.{trace_lines}
use Rattle.akl_run.specs.Outputs.{outlet, HasAppended}
use Rattle.akl_run.proofs.writing.write_trace.Given as goal

abbrev pub invariant-loop-label : goal.invariant-loop-label
invariant-loop-label g l = record {
  appended : HasAppended
      (outlet (g.K.Sink.written l.fn.out.sink.now) (g.K.Sink.faults l.fn.out.sink.now) l.fn.out.written)
      (outlet (g.K.Sink.written l.out.sink.now) (g.K.Sink.faults l.out.sink.now) l.out.written) (trace_lines 1 (take l.label-index l.journal));
  counted : l.at ≡ l.label-index;
  same : l.out.sink.ghost_name ≡ l.fn.out.sink.ghost_name;
}
