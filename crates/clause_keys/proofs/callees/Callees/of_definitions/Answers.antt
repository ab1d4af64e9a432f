use Rattle.std.proofs.Common.{arith}
use Rattle.clause_keys.proofs.Definitions.{definition_more}
use Rattle.clause_keys.proofs.callees.Callees.of_definitions.Goals as goal

pub loop-definition-preserved : goal.loop-definition-preserved
loop-definition-preserved c =
    definition_more c.args.definitions.now c.loop-definition.definition-index c.definition-item.result c.requires.unique c.loop-definition.invariant (omega (arith, c.loop-definition-test.true, c.loop-definition.auto.definition-index-end)) c.definition-item.is c.in_ok-add_definition.ensures.ok
