use Rattle.std.proofs.Common.{◌≡◌, map, take}
use Rattle.akl_terms.specs.declared.term.Node.{Node}
use Rattle.clause_store.proofs.variables.put_variables.Given as goal

abbrev pub invariant-loop-number : goal.invariant-loop-number
invariant-loop-number l = l.group.items ≡ map (λ n. Node.Var n) (take l.number-index l.numbers)
