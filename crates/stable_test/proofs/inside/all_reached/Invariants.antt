use Rattle.std.proofs.Common.{take}
use Rattle.stable_test.specs.Inner.{ListedBy}
use Rattle.stable_test.proofs.inside.all_reached.Given as goal

abbrev pub invariant-loop-view : goal.invariant-loop-view
invariant-loop-view l = ListedBy l.program l.depth l.frames (take l.view-index l.views) l.list.items
