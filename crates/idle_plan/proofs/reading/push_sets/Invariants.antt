use Rattle.std.proofs.Common.{◌≡◌, ◌++◌, take, map}
use Rattle.akl_model.specs.declared.item.Item.{Item}
use Rattle.idle_plan.proofs.reading.push_sets.Given as goal

abbrev pub invariant-loop-name : goal.invariant-loop-name
invariant-loop-name l = l.items.items ≡ l.fn.items.items ++ map Item.Goals (take l.name-index l.names)
