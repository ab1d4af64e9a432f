use Rattle.std.proofs.Common.{◌≡◌, drop}
use Rattle.wake_lists.specs.Open.{after_leave}
use Rattle.scheduler.specs.Dropping.{boxes_among}
use Rattle.scheduler.proofs.dropping.leave_boxes.Given as goal

abbrev pub invariant-loop-place : goal.invariant-loop-place
invariant-loop-place l = after_leave (boxes_among (drop l.place-index l.gone)) l.open_places ≡ after_leave (boxes_among l.gone) l.fn.open_places
