use Rattle.std.proofs.Common.{◌≡◌, ◌+◌, take}
use Rattle.scheduler.specs.Work.{boxes_written}
use Rattle.scheduler.proofs.counting.count_boxes.Given as goal

abbrev pub invariant-loop-made : goal.invariant-loop-made
invariant-loop-made g l = l.steps ≡ l.fn.steps + boxes_written (take l.made-index l.boxes)
