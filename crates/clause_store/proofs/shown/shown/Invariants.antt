use Rattle.clause_store.proofs.ShownNames.{ShownSoFar}
use Rattle.clause_store.proofs.shown.shown.Given as goal

abbrev pub invariant-loop-name : goal.invariant-loop-name
invariant-loop-name l = ShownSoFar l.yielded l.found.items l.index
