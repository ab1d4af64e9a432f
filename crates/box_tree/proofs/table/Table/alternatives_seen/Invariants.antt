use Rattle.std.proofs.Common.{◌≡◌, map, take}
use Rattle.box_tree.specs.Paths.{seen_as}
use Rattle.box_tree.proofs.table.Table.alternatives_seen.Given as goal

abbrev pub invariant-loop-name : goal.invariant-loop-name
invariant-loop-name l = l.seen.items ≡ map (seen_as l.self l.known l.latest l.whole) (take l.name-index l.names)
