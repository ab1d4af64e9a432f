use Rattle.std.proofs.Common.{◌≡◌, ◌+◌, ◌-◌, ◌≤◌, length, drop}
use Rattle.local_store.specs.Kept.{run_of}
use Rattle.local_store.proofs.listed.run_of.Given as goal

abbrev pub invariant-loop-many : goal.invariant-loop-many
invariant-loop-many l = (l.many ≤ length l.bindings) × (run_of l.bindings l.frame ≡ l.many + run_of (drop l.many l.bindings) l.frame)

abbrev pub decreases-loop-many : goal.decreases-loop-many
decreases-loop-many l = length l.bindings - l.many
