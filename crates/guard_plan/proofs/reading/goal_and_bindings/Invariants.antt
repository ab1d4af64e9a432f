use Rattle.std.proofs.Common.{List, ◌∷◌, ◌++◌, drop, map}
use Rattle.akl_model.specs.declared.item.Item.{Item}
use Rattle.guard_plan.specs.ReadAt.{AddsBindings}
use Rattle.guard_plan.proofs.reading.goal_and_bindings.Given as goal

-- what further variables add is added to what was read by now
abbrev pub invariant-loop-variable : goal.invariant-loop-variable
invariant-loop-variable l = (new : List Item) → AddsBindings l.view (drop l.variable-index l.variables) l.items.items new
    → AddsBindings l.view l.variables (Item.Goal l.fn.goal ∷ (map Item.Store l.view.path ++ map Item.Binding l.ends)) new
