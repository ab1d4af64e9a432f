use Rattle.std.proofs.Common.{length}
use Rattle.box_tree.specs.Tables.{table_of}
use Rattle.scheduler.specs.Nearest.{HasWayOut, is_used}
use Rattle.scheduler.proofs.Outwards.{IsPast, climbs}
use Rattle.scheduler.proofs.candidates.quiet_from.Given as goal

-- the way that is left, and no box passed so far had a candidate or was busy
abbrev pub invariant-loop-at : goal.invariant-loop-at
invariant-loop-at l = HasWayOut l.table l.at × IsPast (table_of l.table) (is_used l.open_places l.own) l.fn.first l.at

abbrev pub decreases-loop-at : goal.decreases-loop-at
decreases-loop-at l = climbs (table_of l.table) (length l.table.boxes) l.at
