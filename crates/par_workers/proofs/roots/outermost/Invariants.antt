use Rattle.std.proofs.Common.{length}
use Rattle.box_tree.specs.Tables.{table_of}
use Rattle.box_tree.specs.Paths.{outside_of}
use Rattle.scheduler.specs.Nearest.{HasWayOut}
use Rattle.scheduler.proofs.Outwards.{climbs}
use Rattle.par_workers.proofs.roots.outermost.Given as goal

-- the way that is left
abbrev pub invariant-loop-outer : goal.invariant-loop-outer
invariant-loop-outer l = HasWayOut l.table (outside_of (table_of l.table) l.last)

abbrev pub decreases-loop-outer : goal.decreases-loop-outer
decreases-loop-outer l = climbs (table_of l.table) (length l.table.boxes) (outside_of (table_of l.table) l.last)
