use Rattle.std.proofs.Common.{◌≡◌, ◌++◌, take, map}
use Rattle.akl_model.specs.declared.item.Item.{Item}
use Rattle.box_tree.specs.declared.view.Alternative.{Alternative}
use Rattle.idle_plan.proofs.reading.push_alternatives.Given as goal

abbrev pub invariant-loop-alternative : goal.invariant-loop-alternative
invariant-loop-alternative l = l.items.items ≡ l.fn.items.items ++ map (λ (a : Alternative). Item.Goals a.name) (take l.alternative-index l.alternatives)
