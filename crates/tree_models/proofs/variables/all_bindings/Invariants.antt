use Rattle.std.proofs.Common.{◌≡◌, ◌≤◌, length, drop}
use Rattle.local_store.specs.Chained.{bindings_from}
use Rattle.tree_models.proofs.variables.all_bindings.Given as goal

abbrev pub invariant-loop-left : goal.invariant-loop-left
invariant-loop-left l = (l.left ≤ length l.stores) × (l.list.items ≡ bindings_from (drop l.left l.stores))

abbrev pub decreases-loop-left : goal.decreases-loop-left
decreases-loop-left l = l.left
