use Rattle.std.proofs.Common.{All}
use Rattle.akl_batch.specs.Steps.{IsAnswered}
use Rattle.akl_batch.proofs.sharing.answer_next.Given as goal

abbrev pub invariant-loop-turn : goal.invariant-loop-turn
invariant-loop-turn g l = All (IsAnswered l.program l.queries l.budget) l.answered.items
