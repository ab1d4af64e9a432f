use Rattle.std.proofs.Common.{◌≡◌, ℕ, List}
use Rattle.akl_run.specs.Outputs.{outlet, HasAppended}
use Rattle.akl_run.specs.Written.{AreFirstWaits}
use Rattle.akl_run.proofs.waits.write_waits.Given as goal

abbrev pub invariant-loop-name : goal.invariant-loop-name
invariant-loop-name g l = record {
  text : List ℕ;
  appended : HasAppended
      (outlet (g.K.Sink.written l.fn.out.sink.now) (g.K.Sink.faults l.fn.out.sink.now) l.fn.out.written)
      (outlet (g.K.Sink.written l.out.sink.now) (g.K.Sink.faults l.out.sink.now) l.out.written) text;
  are_waits : AreFirstWaits l.run.core l.names l.name-index text;
  counted : l.number ≡ l.name-index;
  same : l.out.sink.ghost_name ≡ l.fn.out.sink.ghost_name;
}
