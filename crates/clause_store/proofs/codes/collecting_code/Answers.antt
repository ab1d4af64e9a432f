use Rattle.std.proofs.Common.{refl}
use Rattle.term_syntax.specs.View.{tree}
use Rattle.clause_store.proofs.Coded.{collecting_put, collecting_room}
use Rattle.clause_store.proofs.VariableNodes.{variables_put}
use Rattle.clause_store.proofs.codes.collecting_code.Goals as goal

pub put_term-requires : goal.put_term-requires
put_term-requires c = collecting_room c.args.arguments.now (tree c.args.list.now) c.requires.room (variables_put c.args.arguments.now c.in_ok-first.ensures.first c.in_ok-first.ensures.put)

pub returns : goal.returns
returns c = collecting_put c.args.arguments.now (tree c.args.list.now) refl c.in-Some.ensures.found (variables_put c.args.arguments.now c.in_ok-first.ensures.first c.in_ok-first.ensures.put) c.in_ok-node.ensures
