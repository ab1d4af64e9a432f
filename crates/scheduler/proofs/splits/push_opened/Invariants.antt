use Rattle.std.proofs.Common.{◌≡◌, ◌++◌, drop}
use Rattle.box_tree.specs.Tables.{table_of}
use Rattle.opened_places.specs.Placed.{places_of}
use Rattle.scheduler.specs.Splits.{splits_at}
use Rattle.scheduler.proofs.splits.push_opened.Given as goal

abbrev pub invariant-loop-placed : goal.invariant-loop-placed
invariant-loop-placed l = l.splits.items ++ splits_at (table_of l.table) (places_of (drop l.placed-index l.opened)) ≡ l.fn.splits.items ++ splits_at (table_of l.table) (places_of l.opened)
