use Rattle.std.proofs.Common.{◌≡◌, take}
use Rattle.local_store.specs.Stored.{with_bindings}
use Rattle.local_store.proofs.store.Store.add_all.Given as goal

abbrev pub invariant-loop-binding : goal.invariant-loop-binding
invariant-loop-binding l = l.self ≡ with_bindings l.initial.self (take l.binding-index l.bindings)
