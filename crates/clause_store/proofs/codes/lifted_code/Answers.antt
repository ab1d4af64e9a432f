use Rattle.std.proofs.Common.{refl}
use Rattle.clause_store.proofs.Coded.{lifted_put}
use Rattle.clause_store.proofs.VariableNodes.{variables_put}
use Rattle.clause_store.proofs.codes.lifted_code.Goals as goal

pub returns : goal.returns
returns c = lifted_put c.args.arguments.now refl c.in-Some.ensures.found (variables_put c.args.arguments.now c.in_ok-first.ensures.first c.in_ok-first.ensures.put)
