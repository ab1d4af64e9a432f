use Rattle.std.proofs.Common.{◌≡◌, ◌+◌, ◌-◌, ◌≤◌, length, drop}
use Rattle.local_store.specs.Kept.{place_at}
use Rattle.local_store.proofs.frame_bindings.place_of.Given as goal

abbrev pub invariant-loop-place : goal.invariant-loop-place
invariant-loop-place l = (l.place ≤ length l.bindings) × (place_at l.bindings l.index ≡ l.place + place_at (drop l.place l.bindings) l.index)

abbrev pub decreases-loop-place : goal.decreases-loop-place
decreases-loop-place l = length l.bindings - l.place
