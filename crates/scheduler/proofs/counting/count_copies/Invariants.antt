use Rattle.std.proofs.Common.{◌≡◌, ◌+◌, take}
use Rattle.scheduler.specs.Work.{copies_written}
use Rattle.scheduler.proofs.counting.count_copies.Given as goal

abbrev pub invariant-loop-copied : goal.invariant-loop-copied
invariant-loop-copied g l = l.steps ≡ l.fn.steps + copies_written (take l.copied-index l.copies)
