use Rattle.std.proofs.Common.{◌≡◌, ◌+◌, drop}
use Rattle.box_tree.specs.Tables.{table_of}
use Rattle.box_tree.specs.Paths.{known_in, latest_in}
use Rattle.box_tree.proofs.table.Table.known_inside.Given as goal

abbrev pub invariant-loop-name : goal.invariant-loop-name
invariant-loop-name l = (l.known ≡ l.name-index + 1) × (l.known + known_in (table_of l.self) l.latest (drop l.name-index l.inner) ≡ known_in (table_of l.self) l.changed l.inner + 1) × (latest_in (table_of l.self) l.latest (drop l.name-index l.inner) ≡ latest_in (table_of l.self) l.changed l.inner)
