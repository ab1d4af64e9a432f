use Rattle.std.proofs.Common.{refl}
use Rattle.akl_run.specs.Commands.{side}
use Rattle.akl_batch.specs.Steps.{whole}
use Rattle.akl_batch.proofs.Stopping.{written_to}
use Rattle.akl_batch.proofs.run.report_of.Goals.{in-Ok, in-Err}
use Rattle.akl_batch.proofs.run.report_of.Goals as goal

pub returns : goal.returns
returns g c = record {
  refusal = refl;
  replies = refl;
  writing = elim c.match-write_all.branch [
    | in-Ok w ↦ rw w.status-is (whole w.in-Ok.ensures.ok)
    | in-Err w ↦ rw w.status-is (written_to (side (g.K.Sink.written c.args.out.now) (g.K.Sink.faults c.args.out.now)) (side (g.K.Sink.written c.write_all.new.sink) (g.K.Sink.faults c.write_all.new.sink))
        c.args.text.now w.in-Err.short.written w.in-Err.ensures.short w.in-Err.ensures.err w.in-Err.ensures.failed)
  ];
}
