use Rattle.std.proofs.Common.{◌≡◌, take}
use Rattle.local_store.specs.Kept.{frames_of}
use Rattle.local_store.proofs.settled.Settled.frames.Given as goal

abbrev pub invariant-loop-entry : goal.invariant-loop-entry
invariant-loop-entry l = l.list.items ≡ frames_of (take l.entry-index l.entry-items)
