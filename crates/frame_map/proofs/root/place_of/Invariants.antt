use Rattle.std.proofs.Common.{◌≡◌, ◌+◌, ◌-◌, ◌≤◌, length, drop}
use Rattle.frame_map.specs.Roots.{all_roots, place_of}
use Rattle.frame_map.proofs.root.place_of.Given as goal

abbrev pub invariant-loop-place : goal.invariant-loop-place
invariant-loop-place g l = (l.place ≤ length l.roots) × (place_of l.worker (all_roots l.roots) ≡ l.place + place_of l.worker (drop l.place (all_roots l.roots)))

abbrev pub decreases-loop-place : goal.decreases-loop-place
decreases-loop-place g l = length l.roots - l.place
