use Rattle.std.proofs.Common.{◌≡◌, take, map}
use Rattle.std.specs.List.{AllByRecursion}
use Rattle.why_report.specs.Waits.{WaitsOn}
use Rattle.why_report.proofs.waiting.why.Given as goal

abbrev pub invariant-loop-goal : goal.invariant-loop-goal
invariant-loop-goal l = (map (λ w. w.goal) l.list.items ≡ take l.goal-index l.goal-items) × AllByRecursion (λ w. WaitsOn l.core w.goal w.on.items) l.list.items
