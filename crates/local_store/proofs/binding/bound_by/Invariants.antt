use Rattle.std.proofs.Common.{◌≡◌, ◌++◌, drop}
use Rattle.local_store.specs.Bound.{bound_by}
use Rattle.local_store.proofs.binding.bound_by.Given as goal

abbrev pub invariant-loop-binding : goal.invariant-loop-binding
invariant-loop-binding g l = l.list.items ++ bound_by l.templates.nodes (g.W.Lookup.bindings l.whole) (drop l.binding-index l.bindings)
    ≡ l.initial.list.items ++ bound_by l.templates.nodes (g.W.Lookup.bindings l.whole) l.bindings
