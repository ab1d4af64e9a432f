use Rattle.std.proofs.Common.{take}
use Rattle.wake_lists.proofs.WaitsKept.{PartedBy}
use Rattle.wake_lists.proofs.waiting.Waiting.remove_all.Given as goal

abbrev pub invariant-loop-variable : goal.invariant-loop-variable
invariant-loop-variable l = PartedBy l.place l.on l.fn.self l.self (take l.variable-index l.on)
