use Rattle.std.proofs.Common.{length}
use Rattle.scheduler.specs.Once.{IsEachPlaceOnce}
use Rattle.scheduler.proofs.once.are_different.Given as goal

abbrev pub invariant-loop-place : goal.invariant-loop-place
invariant-loop-place l = IsEachPlaceOnce l.left → IsEachPlaceOnce l.places

abbrev pub decreases-loop-place : goal.decreases-loop-place
decreases-loop-place l = length l.left
