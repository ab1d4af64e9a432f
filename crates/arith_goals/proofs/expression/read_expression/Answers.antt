use Rattle.arith_goals.proofs.Naming.{port-other, count-other}
use Rattle.arith_goals.proofs.expression.read_expression.Goals as goal

pub returns-then-count-ne2 : goal.returns-then-count-ne2
returns-then-count-ne2 g c = rw (← c.chain_end-last.ensures) (count-other c.args.templates.now c.chain_end-last.result c.in-Struct.symbol c.in-Struct.first c.in-Struct.count c.in-Struct.frame c.in-Struct.ensures.seen c.if-count-ne2.true)

pub returns-in-Port : goal.returns-in-Port
returns-in-Port g c = rw (← c.chain_end-last.ensures) (port-other c.args.templates.now c.chain_end-last.result c.in-Port.field-0 c.in-Port.ensures.seen)
