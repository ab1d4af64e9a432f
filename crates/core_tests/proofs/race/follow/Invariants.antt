use Rattle.std.proofs.Common.{◌≡◌}
use Rattle.core_tests.proofs.race.follow.Given as goal

abbrev pub invariant-loop-label : goal.invariant-loop-label
invariant-loop-label l = l.program ≡ l.core.table.program
