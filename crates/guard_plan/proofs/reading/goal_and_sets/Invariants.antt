use Rattle.std.proofs.Common.{◌≡◌, ◌∷◌, ◌++◌, map, drop}
use Rattle.akl_model.specs.declared.item.Item.{Item}
use Rattle.guard_plan.proofs.reading.goal_and_sets.Given as goal

abbrev pub invariant-loop-name : goal.invariant-loop-name
invariant-loop-name l = l.items.items ++ map Item.Goals (drop l.name-index l.boxes) ≡ Item.Goal l.fn.goal ∷ map Item.Goals l.boxes
