use Rattle.par_workers.proofs.worker.plan_at.Goals.{in-Whole+in_ok-next_of-in-Whole, in-Early+in_ok-plan_early-in-Early, in-Tried+in_ok-plan_tried-in-Tried}
use Rattle.par_workers.proofs.worker.plan_at.Goals as goal

pub returns : goal.returns
returns c = elim c.match-look.branch [
  | in-Whole+in_ok-next_of-in-Whole w ↦ rw (w.next-is, w.in-Whole.is) w.in_ok-next_of-in-Whole.ensures.next
  | in-Early+in_ok-plan_early-in-Early w ↦ rw (w.next-is, w.in-Early.is) w.in_ok-plan_early-in-Early.ensures
  | in-Tried+in_ok-plan_tried-in-Tried w ↦ rw (w.next-is, w.in-Tried.is) w.in_ok-plan_tried-in-Tried.ensures
]
