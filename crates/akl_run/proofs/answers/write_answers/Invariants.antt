use Rattle.std.proofs.Common.{◌≡◌, ◌≤◌}
use Rattle.akl_run.specs.Outputs.{outlet}
use Rattle.akl_run.proofs.AllAnswers.{HaveWritten}
use Rattle.akl_run.proofs.answers.write_answers.Given as goal

abbrev pub invariant-loop-name : goal.invariant-loop-name
invariant-loop-name g l = record {
  written : HaveWritten l.run l.name-index l.count l.others.items
      (outlet (g.K.Sink.written l.fn.out.sink.now) (g.K.Sink.faults l.fn.out.sink.now) l.fn.out.written)
      (outlet (g.K.Sink.written l.out.sink.now) (g.K.Sink.faults l.out.sink.now) l.out.written);
  few : l.count ≤ l.name-index;
  same : l.out.sink.ghost_name ≡ l.fn.out.sink.ghost_name;
}
