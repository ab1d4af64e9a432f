use Rattle.std.proofs.Common.{take}
use Rattle.std.specs.List.{AllByRecursion}
use Rattle.guard_plan.specs.Planned.{HasNoRule}
use Rattle.stable_test.proofs.stability.none_applies.Given as goal

abbrev pub invariant-loop-view : goal.invariant-loop-view
invariant-loop-view l = AllByRecursion HasNoRule (take l.view-index l.views)
