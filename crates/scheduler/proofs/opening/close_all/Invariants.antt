use Rattle.std.proofs.Common.{◌≡◌, length}
use Rattle.scheduler.specs.Opening.{closed_back}
use Rattle.scheduler.proofs.opening.close_all.Given as goal

abbrev pub invariant-loop-token : goal.invariant-loop-token
invariant-loop-token l = closed_back l.left.items l.open_places ≡ closed_back l.fn.tokens.items l.fn.open_places

abbrev pub decreases-loop-token : goal.decreases-loop-token
decreases-loop-token l = length l.left.items
