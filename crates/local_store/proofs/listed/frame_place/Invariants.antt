use Rattle.std.proofs.Common.{◌≡◌, ◌+◌, ◌-◌, ◌≤◌, length, drop}
use Rattle.local_store.specs.Kept.{frame_place}
use Rattle.local_store.proofs.listed.frame_place.Given as goal

abbrev pub invariant-loop-place : goal.invariant-loop-place
invariant-loop-place l = (l.place ≤ length l.frames) × (frame_place l.frames l.frame ≡ l.place + frame_place (drop l.place l.frames) l.frame)

abbrev pub decreases-loop-place : goal.decreases-loop-place
decreases-loop-place l = length l.frames - l.place
