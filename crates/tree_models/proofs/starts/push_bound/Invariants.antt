use Rattle.std.proofs.Common.{◌≡◌, ◌++◌, map, take}
use Rattle.akl_terms.specs.declared.name.Var.{Var}
use Rattle.akl_terms.specs.declared.term.Term.{Term}
use Rattle.tree_models.specs.declared.starts.Start.{Start}
use Rattle.tree_models.proofs.starts.push_bound.Given as goal

abbrev pub invariant-loop-binding : goal.invariant-loop-binding
invariant-loop-binding l = l.list.items ≡ l.fn.list.items ++ map (λ (b : Var × Term). Start.Term b.1) (take l.binding-index l.bindings)
