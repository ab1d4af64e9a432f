use Rattle.std.proofs.Common.{◌≡◌, drop}
use Rattle.wake_lists.specs.Open.{after_leave}
use Rattle.wake_lists.proofs.open.Open.leave.Given as goal

abbrev pub invariant-loop-name : goal.invariant-loop-name
invariant-loop-name l = after_leave (drop l.name-index l.boxes) l.self ≡ after_leave l.boxes l.fn.self
