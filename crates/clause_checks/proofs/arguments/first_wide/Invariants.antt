use Rattle.std.proofs.Common.{◌≡◌, map, drop}
use Rattle.clause_checks.specs.Rows.{first, first_wide_in_clause}
use Rattle.clause_checks.specs.Tallies.{clause_of}
use Rattle.clause_checks.proofs.arguments.first_wide.Given as given

abbrev pub invariant-loop-clause : given.invariant-loop-clause
invariant-loop-clause l = first first_wide_in_clause (map clause_of (drop l.clause-index l.listed)) ≡ first first_wide_in_clause (map clause_of l.listed)
