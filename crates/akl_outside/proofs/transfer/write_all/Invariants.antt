use Rattle.std.proofs.Common.{◌≡◌, ◌-◌, ◌≤◌, length, take}
use Rattle.std.specs.Io.KnownBytes.{append_known}
use Rattle.akl_outside.specs.Transfer.{Moves}
use Rattle.akl_outside.proofs.transfer.write_all.Given as goal

abbrev pub invariant-loop-written : goal.invariant-loop-written
invariant-loop-written g l = record {
  within : l.written ≤ length l.bytes;
  wrote : g.K.Sink.written l.sink ≡ append_known (g.K.Sink.written l.fn.sink) (take l.written l.bytes);
  calls : Moves g.K.Sink.write_takes l.fn.sink (take l.written l.bytes) l.sink;
  later : g.K.Sink.faults l.fn.sink ≤ g.K.Sink.faults l.sink;
}

abbrev pub decreases-loop-written : goal.decreases-loop-written
decreases-loop-written g l = length l.bytes - l.written
