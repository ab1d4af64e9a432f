use Rattle.std.proofs.Common.{length, ap, ◌∙◌, arith}
use Rattle.clause_store.proofs.VariableNodes.{length-numbers_from}
use Rattle.clause_store.proofs.variables.put_variables_below.Goals as goal

pub put_variables-requires : goal.put_variables-requires
put_variables-requires c = omega (arith, ap length (c.deref.ensures.value ∙ c.in_ok-numbers.ensures) ∙ length-numbers_from 0 c.args.count, c.requires)

pub returns : goal.returns
returns c = rw (c.deref.ensures.value ∙ c.in_ok-numbers.ensures) at c.in_ok-put_variables.ensures.put
