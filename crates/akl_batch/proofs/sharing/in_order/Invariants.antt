use Rattle.std.proofs.Common.{take}
use Rattle.akl_batch.specs.Steps.{AreAnswers, FitPlaces}
use Rattle.akl_batch.proofs.sharing.in_order.Given as goal

abbrev pub invariant-loop-at : goal.invariant-loop-at
invariant-loop-at g l = record {
  places : FitPlaces l.program l.queries l.budget l.places.items;
  answers : AreAnswers l.program (take l.at l.queries) l.budget l.answers.items;
}
