use Rattle.std.proofs.Common.{◌≡◌, ◌++◌, drop}
use Rattle.variable_scopes.proofs.variables.add_all.Given as given

abbrev pub invariant-loop-number : given.invariant-loop-number
invariant-loop-number l = l.found.items ++ drop l.number-index l.numbers ≡ l.fn.found.items ++ l.numbers
