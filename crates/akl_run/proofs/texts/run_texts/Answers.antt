use Rattle.std.proofs.Common.{refl, ap}
use Rattle.akl_run.specs.Commands.{side}
use Rattle.akl_run.specs.Steps.{unloaded, unended, answered}
use Rattle.akl_run.proofs.texts.run_texts.Goals as goal

pub returns-in-Err : goal.returns-in-Err
returns-in-Err g c = unloaded c.in-Err.stop c.in-Err.ensures.stop c.stopped.ensures refl

pub returns-in-Ok-answer : goal.returns-in-Ok-answer
returns-in-Ok-answer g c = answered c.in-Ok.loaded c.in-Ok.ensures.loaded c.in-Ok-answer.ensures.answered

pub returns-in-Err-answer : goal.returns-in-Err-answer
returns-in-Err-answer g c =
    unended c.in-Err-answer.stop c.in-Err-answer.ensures.stop c.stopped-in-Err-answer.ensures
    (ap (λ k. side (g.K.Sink.written k) (g.K.Sink.faults k)) c.in-Err-answer.ensures.unwritten)
