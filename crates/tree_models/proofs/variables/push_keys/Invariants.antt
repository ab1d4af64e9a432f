use Rattle.std.proofs.Common.{◌≡◌, ◌++◌, map, take}
use Rattle.akl_terms.specs.declared.name.Var.{Var}
use Rattle.akl_terms.specs.declared.term.Term.{Term}
use Rattle.tree_models.proofs.variables.push_keys.Given as goal

abbrev pub invariant-loop-binding : goal.invariant-loop-binding
invariant-loop-binding l = l.list.items ≡ l.fn.list.items ++ map (λ (b : Var × Term). b.0) (take l.binding-index l.bindings)
