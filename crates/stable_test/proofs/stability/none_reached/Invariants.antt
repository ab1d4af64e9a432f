use Rattle.std.proofs.Common.{take}
use Rattle.std.specs.List.{AllByRecursion}
use Rattle.stable_test.specs.Reaching.{ReachesNoneAt}
use Rattle.stable_test.proofs.stability.none_reached.Given as goal

abbrev pub invariant-loop-view : goal.invariant-loop-view
invariant-loop-view l = AllByRecursion (ReachesNoneAt l.program l.depth l.frames) (take l.view-index l.views)
