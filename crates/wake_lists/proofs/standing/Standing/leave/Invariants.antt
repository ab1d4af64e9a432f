use Rattle.wake_lists.specs.Standing.{how_many}
use Rattle.wake_lists.proofs.BoxesKept.{LeftBy}
use Rattle.wake_lists.proofs.standing.Standing.leave.Given as goal

abbrev pub invariant-loop-token : goal.invariant-loop-token
invariant-loop-token l = LeftBy l.name l.fn.self l.self

abbrev pub decreases-loop-token : goal.decreases-loop-token
decreases-loop-token l = how_many l.self
