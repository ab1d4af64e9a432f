use Rattle.std.proofs.Common.{◌≡◌, ◌≤◌, drop, length}
use Rattle.akl_model.specs.Config.{with_names}
use Rattle.box_tree.proofs.promoting.add_names.Given as goal

abbrev pub invariant-loop-at : goal.invariant-loop-at
invariant-loop-at l = (l.at ≤ length l.names) × (l.set.keys ≡ with_names (drop l.at l.names) l.initial.set.keys)

abbrev pub decreases-loop-at : goal.decreases-loop-at
decreases-loop-at l = l.at
