use Rattle.std.proofs.Common.{◌≡◌, drop}
use Rattle.local_store.proofs.settling.remove_names.Given as goal

abbrev pub invariant-loop : goal.invariant-loop
invariant-loop l = l.names.items ≡ drop l.counter l.initial.names.items
