use Rattle.std.proofs.Common.{◌-◌, ◌≤◌}
use Rattle.frame_map.proofs.digits.width_for.Given as goal

abbrev pub invariant-loop-width : goal.invariant-loop-width
invariant-loop-width l = l.width ≤ 64

abbrev pub decreases-loop-width : goal.decreases-loop-width
decreases-loop-width l = 64 - l.width
