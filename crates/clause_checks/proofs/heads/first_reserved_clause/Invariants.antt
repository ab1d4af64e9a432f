use Rattle.std.proofs.Common.{◌≡◌, map, drop}
use Rattle.clause_checks.specs.Rows.{first, key_if_reserved}
use Rattle.clause_checks.specs.Tallies.{clause_of}
use Rattle.clause_checks.proofs.heads.first_reserved_clause.Given as given

abbrev pub invariant-loop-clause : given.invariant-loop-clause
invariant-loop-clause l = first key_if_reserved (map clause_of (drop l.clause-index l.listed)) ≡ first key_if_reserved (map clause_of l.listed)
