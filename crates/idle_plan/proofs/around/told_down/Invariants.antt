use Rattle.std.proofs.Common.{◌≤◌, take}
use Rattle.akl_terms.specs.Equal.{IsConsistent}
use Rattle.local_store.specs.Chained.{equations_of}
use Rattle.idle_plan.specs.Waits.{AreToldAround}
use Rattle.idle_plan.proofs.around.told_down.Given as goal

-- all down to the last box that was looked at is consistent
abbrev pub invariant-loop-depth : goal.invariant-loop-depth
invariant-loop-depth l = (1 ≤ l.depth) × (l.depth ≤ l.count) × IsConsistent (equations_of l.program.templates.nodes (take l.depth l.view.stores))
    × AreToldAround l.program.templates.nodes l.view.stores l.depth l.list.items
