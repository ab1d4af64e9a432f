use Rattle.std.proofs.Common.{◌≤◌, length, drop}
use Rattle.local_store.specs.Chained.{bindings_from, BindNone}
use Rattle.local_store.proofs.chain.Chain.binds_none.Given as goal

abbrev pub invariant-loop-left : goal.invariant-loop-left
invariant-loop-left l = (l.left ≤ length l.self.stores) × BindNone (bindings_from (drop l.left l.self.stores)) l.frame

abbrev pub decreases-loop-left : goal.decreases-loop-left
decreases-loop-left l = l.left
