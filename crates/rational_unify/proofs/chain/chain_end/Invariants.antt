use Rattle.std.proofs.Common.{◌≡◌}
use Rattle.akl_terms.specs.Template.{tree}
use Rattle.rational_unify.specs.Known.{end_of}
use Rattle.rational_unify.proofs.Chains.{chain}
use Rattle.rational_unify.proofs.chain.chain_end.Given as goal

abbrev pub invariant-loop-next : goal.invariant-loop-next
invariant-loop-next g l = end_of l.templates.nodes (g.K.Lookup.bindings l.known) (tree l.templates.nodes l.last) ≡ end_of l.templates.nodes (g.K.Lookup.bindings l.known) (tree l.templates.nodes l.fn.term)

abbrev pub decreases-loop-next : goal.decreases-loop-next
decreases-loop-next g l = chain l.templates.nodes (g.K.Lookup.bindings l.known) l.last
