use Rattle.std.proofs.Common.{◌≡◌, take, []}
use Rattle.local_store.specs.Kept.{frames_of, bindings_of}
use Rattle.local_store.specs.Stored.{all_named}
use Rattle.local_store.proofs.settled.Settled.without_bindings.Given as goal

abbrev pub invariant-loop-frame : goal.invariant-loop-frame
invariant-loop-frame l = (frames_of l.settled ≡ all_named [] (take l.frame-index l.frame-items)) × (bindings_of l.settled ≡ [])
