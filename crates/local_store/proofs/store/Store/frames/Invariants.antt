use Rattle.std.proofs.Common.{◌≡◌, take}
use Rattle.local_store.specs.Stored.{all_named}
use Rattle.local_store.proofs.store.Store.frames.Given as goal

abbrev pub invariant-loop-frame : goal.invariant-loop-frame
invariant-loop-frame l = l.list.items ≡ all_named l.initial.list.items (take l.frame-index l.frame-items)
