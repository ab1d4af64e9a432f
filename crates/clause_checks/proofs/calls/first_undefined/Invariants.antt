use Rattle.std.proofs.Common.{◌≡◌, map, drop}
use Rattle.clause_checks.specs.Rows.{first, key_if_undefined}
use Rattle.clause_checks.specs.Within.{goals_in}
use Rattle.clause_checks.specs.Tallies.{clause_of}
use Rattle.clause_checks.proofs.calls.first_undefined.Given as given

abbrev pub invariant-loop-clause : given.invariant-loop-clause
invariant-loop-clause l = first (λ c. first (key_if_undefined l.callees) (goals_in c)) (map clause_of (drop l.clause-index l.listed)) ≡ first (λ c. first (key_if_undefined l.callees) (goals_in c)) (map clause_of l.listed)
