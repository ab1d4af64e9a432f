use Rattle.std.proofs.Common.{◌≡◌, ◌++◌, List}
use Rattle.akl_terms.specs.declared.name.Var.{Var}
use Rattle.rational_unify.specs.Followed.{LeadsAlong}
use Rattle.rational_unify.proofs.Chains.{chain}
use Rattle.rational_unify.proofs.chain.path_of.Given as goal

abbrev pub invariant-loop-variable : goal.invariant-loop-variable
invariant-loop-variable g l = (path : List Var) × (l.variables.items ≡ l.initial.variables.items ++ path) × LeadsAlong l.templates.nodes (g.K.Lookup.bindings l.known) l.fn.term path l.last

abbrev pub decreases-loop-variable : goal.decreases-loop-variable
decreases-loop-variable g l = chain l.templates.nodes (g.K.Lookup.bindings l.known) l.last
