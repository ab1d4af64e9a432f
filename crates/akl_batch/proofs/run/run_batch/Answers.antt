use Rattle.std.proofs.Common.{refl}
use Rattle.akl_run.specs.Words.{bytes_of}
use Rattle.akl_run.specs.Commands.{side}
use Rattle.akl_batch.specs.Steps.{AreGathered}
use Rattle.akl_batch.proofs.Reported.{stopped, answered, reported}
use Rattle.akl_batch.proofs.Stopping.{memory_stops_batch}
use Rattle.akl_batch.proofs.run.run_batch.Goals as goal

pub returns-in-Err : goal.returns-in-Err
returns-in-Err g c = reported _ (stopped c.in-Err.stop c.in-Err.ensures.stop c.stopped.ensures refl)

pub returns-in-Ok-gathered : goal.returns-in-Ok-gathered
returns-in-Ok-gathered g c =
    let text : AreGathered c.in-Ok.answers.items c.in-Ok-gathered.replies.items c.deref.result.now = rw c.deref.ensures.value c.in-Ok-gathered.ensures in
    reported _ (answered c.in-Ok.answers.items c.in-Ok-gathered.replies.items c.deref.result.now c.in-Ok.ensures.answers text c.report_of.ensures)

pub returns-in-Err-gathered : goal.returns-in-Err-gathered
returns-in-Err-gathered g c =
    let source = side (g.S.Source.left c.args.program.now) (g.S.Source.faults c.args.program.now) in
    let source_after = side (g.S.Source.left c.work.new.program) (g.S.Source.faults c.work.new.program) in
    reported _ (stopped c.from.result (memory_stops_batch (bytes_of c.args.words.now) source source_after c.in-Ok.answers.items c.from.result c.in-Ok.ensures.answers c.from.ensures) c.stopped-in-Err-gathered.ensures refl)
