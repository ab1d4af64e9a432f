use Rattle.std.proofs.Common.{map, drop}
use Rattle.clause_checks.specs.Rows.{first_crowded_in_clause}
use Rattle.clause_checks.specs.Tallies.{clause_of}
use Rattle.clause_checks.proofs.Searches.{Searches}
use Rattle.clause_checks.proofs.definitions.first_crowded.Given as given

abbrev pub invariant-loop-clause : given.invariant-loop-clause
invariant-loop-clause l = Searches (first_crowded_in_clause (map clause_of l.listed)) (map clause_of l.listed) (drop l.clause-index l.listed)
