use Rattle.std.proofs.Common.{◌≡◌, ◌++◌, take}
use Rattle.tree_models.proofs.variables.push_bindings.Given as goal

abbrev pub invariant-loop-binding : goal.invariant-loop-binding
invariant-loop-binding l = l.list.items ≡ l.fn.list.items ++ take l.binding-index l.bindings
