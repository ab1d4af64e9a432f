use Rattle.std.proofs.Common.{◌≡◌, None, take}
use Rattle.local_store.specs.Kept.{found_at}
use Rattle.local_store.proofs.frame_bindings.FrameBindings.first.Given as goal

abbrev pub invariant-loop-binding : goal.invariant-loop-binding
invariant-loop-binding l = found_at (take l.binding-index l.binding-items) l.index ≡ None
