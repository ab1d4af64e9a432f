use Rattle.wake_lists.proofs.OpenKept.{none_open}
use Rattle.wake_lists.proofs.open.Open.new.Goals as goal

pub invariant_of-result : goal.invariant_of-result
invariant_of-result c = rw (c.new.ensures, c.new-2.ensures, c.new-3.ensures) none_open
