use Rattle.std.proofs.Common.{◌≡◌}
use Rattle.akl_lift.specs.Lifting.{numbers_from}
use Rattle.akl_lift.proofs.scope.numbers_below.Given as goal

abbrev pub invariant-loop-number : goal.invariant-loop-number
invariant-loop-number l = l.numbers.items ≡ numbers_from 0 l.number
