use Rattle.std.proofs.Common.{◌≡◌, ◌++◌, ◌-◌, take, drop}
use Rattle.table_laws.specs.Writes.{less_name}
use Rattle.box_tree.proofs.failing.remove_name.Given as goal

abbrev pub invariant-loop-at : goal.invariant-loop-at
invariant-loop-at l = (l.names ≡ l.fn.names) × (less_name l.fn.name l.fn.names.items ≡ take l.at l.fn.names.items ++ less_name l.fn.name (drop l.at l.fn.names.items))

abbrev pub decreases-loop-at : goal.decreases-loop-at
decreases-loop-at l = l.names.len - l.at
