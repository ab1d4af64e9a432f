use Rattle.std.proofs.Common.{◌≡◌, take}
use Rattle.local_store.specs.Stored.{joins}
use Rattle.local_store.proofs.store.Store.bindings.Given as goal

abbrev pub invariant-loop-binding : goal.invariant-loop-binding
invariant-loop-binding l = l.list.items ≡ joins l.initial.list.items (take l.binding-index l.binding-items)
