use Rattle.std.proofs.Common.{◌-◌, length}
use Rattle.akl_text.proofs.LayoutSkips.{SkipsSoFar}
use Rattle.akl_text.proofs.layout.layout_end.Given as goal

abbrev pub invariant-loop-at : goal.invariant-loop-at
invariant-loop-at l = SkipsSoFar l.fn.bytes l.fn.from l.at

abbrev pub decreases-loop-at : goal.decreases-loop-at
decreases-loop-at l = length l.bytes - l.at
