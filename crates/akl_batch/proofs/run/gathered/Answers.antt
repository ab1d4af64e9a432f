use Rattle.std.proofs.Common.{refl}
use Rattle.akl_batch.proofs.Places.{one_yielded}
use Rattle.akl_batch.proofs.Texts.{gathered_more}
use Rattle.akl_batch.proofs.run.gathered.Goals as goal

pub loop-answer-preserved : goal.loop-answer-preserved
loop-answer-preserved c =
    let i = c.loop-answer.invariant in
    let one = c.in-Some.answer in
    record {
      answers = one_yielded c.loop-answer.yielded one _ c.args.answers.items c.loop-answer.answer-iterator i.answers c.in-Some.ensures.steps.0;
      gathered = rw (c.in_ok-push_answer.ensures.text, c.in_ok-push_answer.ensures.reply)
          (gathered_more c.loop-answer.yielded c.loop-answer.replies.items c.loop-answer.text.items one _ _ i.gathered refl refl);
    }
