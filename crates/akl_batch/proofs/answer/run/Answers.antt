use Rattle.std.proofs.lemmas.Result.{IfOk-weaker}
use Rattle.akl_batch.proofs.Answering.{answers_loaded}
use Rattle.akl_batch.proofs.answer.run.Goals as goal

pub returns-clause-answer : goal.returns-clause-answer
returns-clause-answer c =
    IfOk-weaker c.written.result _ _ (λ a t. answers_loaded c.args.loaded c.args.budget c.in_ok-report.report c.new-sink.result c.answer_alone.new.sink a c.new-sink.ensures c.in_ok-report.ensures t) c.written.ensures.answer
