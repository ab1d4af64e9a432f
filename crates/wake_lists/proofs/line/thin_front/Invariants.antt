use Rattle.std.proofs.Common.{◌≡◌, ◌≤◌}
use Rattle.wake_lists.specs.Lines.{is_current, IsThinned}
use Rattle.wake_lists.proofs.line.thin_front.Given as goal

abbrev pub invariant-loop-entry : goal.invariant-loop-entry
invariant-loop-entry l = record {
  thinned : IsThinned (is_current l.places l.urgency) l.fn.entries.items l.entries.items;
  shorter : l.entries.len ≤ l.fn.entries.len;
  capacity : l.entries.cap ≡ l.fn.entries.cap;
}

abbrev pub decreases-loop-entry : goal.decreases-loop-entry
decreases-loop-entry l = l.entries.len
