use Rattle.std.proofs.Common.{◌≡◌, ◌++◌, map, take}
use Rattle.akl_terms.specs.declared.name.Var.{Var}
use Rattle.tree_models.specs.declared.starts.Start.{Start}
use Rattle.tree_models.proofs.starts.push_variables.Given as goal

abbrev pub invariant-loop-variable : goal.invariant-loop-variable
invariant-loop-variable l = l.list.items ≡ l.fn.list.items ++ map (λ (x : Var). Start.Variable x) (take l.variable-index l.variables)
