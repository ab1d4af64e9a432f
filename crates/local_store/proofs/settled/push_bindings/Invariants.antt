use Rattle.std.proofs.Common.{◌≡◌, ◌++◌, take}
use Rattle.local_store.specs.Kept.{of_frame}
use Rattle.local_store.proofs.settled.push_bindings.Given as goal

abbrev pub invariant-loop-binding : goal.invariant-loop-binding
invariant-loop-binding l = l.list.items ≡ l.fn.list.items ++ of_frame l.frame (take l.binding-index l.bindings)
