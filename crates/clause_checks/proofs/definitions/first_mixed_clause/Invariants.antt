use Rattle.std.proofs.Common.{map, drop}
use Rattle.clause_checks.specs.Tallies.{clause_of}
use Rattle.clause_checks.proofs.Mixing.{MixedSearch}
use Rattle.clause_checks.proofs.definitions.first_mixed_clause.Given as given

abbrev pub invariant-loop-clause : given.invariant-loop-clause
invariant-loop-clause l = MixedSearch (map clause_of l.listed) (drop l.clause-index l.listed)
