use Rattle.wake_lists.proofs.QueueKept.{none_queued}
use Rattle.wake_lists.proofs.queue.Queue.new.Goals as goal

pub invariant_of-result : goal.invariant_of-result
invariant_of-result c = rw (c.new.ensures, c.new-2.ensures) none_queued
