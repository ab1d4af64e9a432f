use Rattle.std.proofs.Common.{◌≡◌, ◌+◌, ◌-◌, ◌≤◌, length, drop}
use Rattle.local_store.specs.Kept.{binding_place}
use Rattle.local_store.proofs.listed.binding_place.Given as goal

abbrev pub invariant-loop-place : goal.invariant-loop-place
invariant-loop-place l = (l.place ≤ length l.bindings) × (binding_place l.bindings l.variable ≡ l.place + binding_place (drop l.place l.bindings) l.variable)

abbrev pub decreases-loop-place : goal.decreases-loop-place
decreases-loop-place l = length l.bindings - l.place
