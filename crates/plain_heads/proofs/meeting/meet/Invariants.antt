use Rattle.std.proofs.Common.{[]}
use Rattle.local_store.specs.Chained.{bindings_from}
use Rattle.plain_heads.specs.Plain.{ArePlain}
use Rattle.plain_heads.proofs.Along.{Along}
use Rattle.plain_heads.proofs.meeting.meet.Given as goal

abbrev pub invariant-loop-index : goal.invariant-loop-index
invariant-loop-index l = ArePlain l.chain.nodes (bindings_from l.chain.stores) l.head.frame l.bindings.items
    × Along l.chain.nodes (bindings_from l.chain.stores) l.fn.arguments.frame l.fn.arguments.first l.fn.arguments.count l.head.frame l.head.first l.head.count [] l.bindings.items l.index
