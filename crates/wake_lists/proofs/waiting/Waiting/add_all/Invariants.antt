use Rattle.std.proofs.Common.{take}
use Rattle.wake_lists.proofs.WaitsKept.{JoinedBy}
use Rattle.wake_lists.proofs.waiting.Waiting.add_all.Given as goal

abbrev pub invariant-loop-variable : goal.invariant-loop-variable
invariant-loop-variable l = JoinedBy l.place l.on l.fn.self l.self (take l.variable-index l.on)
