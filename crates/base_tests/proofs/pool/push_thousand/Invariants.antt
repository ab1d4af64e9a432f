use Rattle.std.proofs.Common.{◌≡◌}
use Rattle.base_tests.proofs.pool.push_thousand.Given as goal

abbrev pub invariant-loop-k : goal.invariant-loop-k
invariant-loop-k l = record { place : l.hand.place ≡ l.initial.hand.place }
