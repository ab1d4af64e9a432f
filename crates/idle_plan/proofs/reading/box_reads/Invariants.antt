use Rattle.std.proofs.Common.{◌≡◌, ◌++◌, drop, map}
use Rattle.akl_model.specs.declared.item.Item.{Item}
use Rattle.idle_plan.specs.Read.{sets_in}
use Rattle.idle_plan.proofs.reading.box_reads.Given as goal

-- the items so far, and those of the boxes that are left
abbrev pub invariant-loop-inner : goal.invariant-loop-inner
invariant-loop-inner l = l.items.items ++ sets_in (drop l.inner-index l.boxes) ≡ map Item.Goals l.around ++ sets_in l.boxes
