use Rattle.std.proofs.Common.{◌≡◌, ◌++◌, drop}
use Rattle.split_plan.specs.Read.{items_in}
use Rattle.split_plan.proofs.reading.push_boxes.Given as goal

-- the items so far, and those of the boxes that are left
abbrev pub invariant-loop-inner : goal.invariant-loop-inner
invariant-loop-inner l = l.items.items ++ items_in (drop l.inner-index l.boxes) ≡ l.fn.items.items ++ items_in l.boxes
