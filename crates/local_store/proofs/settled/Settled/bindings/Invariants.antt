use Rattle.std.proofs.Common.{◌≡◌, take}
use Rattle.local_store.specs.Kept.{bindings_of}
use Rattle.local_store.proofs.settled.Settled.bindings.Given as goal

abbrev pub invariant-loop-entry : goal.invariant-loop-entry
invariant-loop-entry l = l.list.items ≡ bindings_of (take l.entry-index l.entry-items)
