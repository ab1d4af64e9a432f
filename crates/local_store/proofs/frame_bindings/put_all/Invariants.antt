use Rattle.std.proofs.Common.{◌≡◌, take}
use Rattle.local_store.specs.Kept.{put_all}
use Rattle.local_store.proofs.frame_bindings.put_all.Given as goal

abbrev pub invariant-loop-binding : goal.invariant-loop-binding
invariant-loop-binding l = l.bindings.items ≡ put_all l.initial.bindings.items (take l.binding-index l.added)
