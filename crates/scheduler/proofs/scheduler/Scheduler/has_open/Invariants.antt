use Rattle.std.proofs.Common.{◌≡◌, drop, false}
use Rattle.std.specs.List.{list_any}
use Rattle.scheduler.specs.Attending.{has_open}
use Rattle.scheduler.proofs.scheduler.Scheduler.has_open.Given as goal

-- none of those that were looked at
abbrev pub invariant-loop-k : goal.invariant-loop-k
invariant-loop-k l = list_any (has_open l.self.openings) (drop l.k l.boxes) ≡ false
