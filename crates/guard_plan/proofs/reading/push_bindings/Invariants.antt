use Rattle.std.proofs.Common.{◌≡◌, ◌++◌, take, map}
use Rattle.akl_model.specs.declared.item.Item.{Item}
use Rattle.guard_plan.proofs.reading.push_bindings.Given as goal

abbrev pub invariant-loop-variable : goal.invariant-loop-variable
invariant-loop-variable l = l.items.items ≡ l.fn.items.items ++ map Item.Binding (take l.variable-index l.variables)
