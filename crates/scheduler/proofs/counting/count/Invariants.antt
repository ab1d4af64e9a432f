use Rattle.std.proofs.Common.{◌≡◌, ◌+◌}
use Rattle.scheduler.proofs.counting.count.Given as goal

abbrev pub invariant-loop-i : goal.invariant-loop-i
invariant-loop-i g l = l.steps ≡ l.fn.steps + l._i
