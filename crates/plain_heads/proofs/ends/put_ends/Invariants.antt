use Rattle.std.proofs.Common.{◌≡◌, length}
use Rattle.local_store.specs.Chained.{bindings_from}
use Rattle.plain_heads.specs.Plain.{AreEnds}
use Rattle.plain_heads.proofs.ends.put_ends.Given as goal

abbrev pub invariant-loop-index : goal.invariant-loop-index
invariant-loop-index l = AreEnds l.chain.nodes (bindings_from l.chain.stores) l.arguments.frame l.arguments.first l.ends.items × (length l.ends.items ≡ l.index)
