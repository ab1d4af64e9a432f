use Rattle.std.proofs.Common.{◌≡◌, length, map, drop}
use Rattle.clause_checks.specs.Rows.{first, above}
use Rattle.clause_checks.specs.Tallies.{clause_of}
use Rattle.clause_checks.proofs.checks.first_many_variables.Given as given

abbrev pub invariant-loop-clause : given.invariant-loop-clause
invariant-loop-clause l = first (λ c. above 256 (length c.names)) (map clause_of (drop l.clause-index l.listed)) ≡ first (λ c. above 256 (length c.names)) (map clause_of l.listed)
