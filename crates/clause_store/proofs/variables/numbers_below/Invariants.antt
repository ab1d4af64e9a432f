use Rattle.std.proofs.Common.{◌≡◌}
use Rattle.clause_store.specs.Putting.{numbers_from}
use Rattle.clause_store.proofs.variables.numbers_below.Given as goal

abbrev pub invariant-loop-number : goal.invariant-loop-number
invariant-loop-number l = l.numbers.items ≡ numbers_from 0 l.number
