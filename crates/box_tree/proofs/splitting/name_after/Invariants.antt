use Rattle.std.proofs.Common.{◌≡◌, ◌++◌, ◌-◌, length, take, drop}
use Rattle.table_laws.specs.Writes.{name_after}
use Rattle.box_tree.proofs.splitting.name_after.Given as goal

-- the names before the place are passed
abbrev pub invariant-loop-at : goal.invariant-loop-at
invariant-loop-at l = (l.all.items ≡ l.names) × (take l.at l.names ++ name_after l.name l.copy (drop l.at l.names) ≡ name_after l.name l.copy l.names)

abbrev pub decreases-loop-at : goal.decreases-loop-at
decreases-loop-at l = length l.names - l.at
