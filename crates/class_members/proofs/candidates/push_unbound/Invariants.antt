use Rattle.std.proofs.Common.{◌≡◌, ◌++◌, take}
use Rattle.class_members.specs.Listed.{unbound_keys}
use Rattle.class_members.proofs.candidates.push_unbound.Given as goal

abbrev pub invariant-loop-binding : goal.invariant-loop-binding
invariant-loop-binding l = l.list.items ≡ l.fn.list.items ++ unbound_keys l.outermost (take l.binding-index l.bindings)
