use Rattle.std.proofs.Common.{◌≡◌, ◌++◌}
use Rattle.std.specs.Vec.Iter.{into_iter_items}
use Rattle.akl_batch.proofs.Texts.{HasGathered}
use Rattle.akl_batch.proofs.run.gathered.Given as goal

abbrev pub invariant-loop-answer : goal.invariant-loop-answer
invariant-loop-answer l = record {
  answers : l.yielded ++ into_iter_items l.answer-iterator ≡ l.fn.answers.items;
  gathered : HasGathered l.yielded l.replies.items l.text.items;
}
