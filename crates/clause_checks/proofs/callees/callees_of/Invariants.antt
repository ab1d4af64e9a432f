use Rattle.std.proofs.Common.{◌≤◌, length, map, take}
use Rattle.clause_keys.specs.Keys.{called_by}
use Rattle.clause_checks.proofs.SameCallee.{IsIndexOf}
use Rattle.clause_checks.proofs.callees.callees_of.Given as given

abbrev pub invariant-loop-definition : given.invariant-loop-definition
invariant-loop-definition l = IsIndexOf (map called_by (take l.definition-index l.definitions)) l.callees × (length l.callees ≤ l.definition-index)
