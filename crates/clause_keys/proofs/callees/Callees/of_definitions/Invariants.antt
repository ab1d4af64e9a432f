use Rattle.std.proofs.Common.{◌≡◌, map, take}
use Rattle.clause_keys.specs.Keys.{called_by}
use Rattle.clause_keys.proofs.callees.Callees.of_definitions.Given as given

abbrev pub invariant-loop-definition : given.invariant-loop-definition
invariant-loop-definition l = l.callees ≡ map called_by (take l.definition-index l.definitions)
