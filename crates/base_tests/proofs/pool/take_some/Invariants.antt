use Rattle.std.proofs.Common.{◌≡◌}
use Rattle.base_tests.proofs.pool.take_some.Given as goal

abbrev pub invariant-loop : goal.invariant-loop
invariant-loop g l = record { place : l.hand.place ≡ l.initial.hand.place }
