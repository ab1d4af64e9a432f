use Rattle.std.proofs.Common.{◌≡◌, ◌++◌, drop}
use Rattle.box_tree.specs.Tables.{table_of}
use Rattle.scheduler.specs.Splits.{splits_at}
use Rattle.scheduler.proofs.splits.push_gone.Given as goal

abbrev pub invariant-loop-place : goal.invariant-loop-place
invariant-loop-place l = l.splits.items ++ splits_at (table_of l.table) (drop l.place-index l.gone) ≡ l.fn.splits.items ++ splits_at (table_of l.table) l.gone
