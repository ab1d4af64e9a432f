use Rattle.std.proofs.Common.{◌≡◌, drop}
use Rattle.local_store.proofs.settling.remove_bindings.Given as goal

abbrev pub invariant-loop : goal.invariant-loop
invariant-loop l = l.bindings.items ≡ drop l.counter l.initial.bindings.items
