use Rattle.akl_terms.specs.Equal.{Equations, IsTold}
use Rattle.akl_terms.specs.Template.{tree}
use Rattle.rational_unify.specs.Forms.{IsFormOf}
use Rattle.arith_goals.proofs.Walks.{IsWalk, turns_left}
use Rattle.arith_goals.proofs.walk.walk_expression.Given as goal

abbrev pub invariant-loop-walk : goal.invariant-loop-walk
invariant-loop-walk g l = (E : Equations) → IsFormOf l.templates.nodes (g.K.Lookup.bindings l.known) (IsTold E) → IsWalk l.templates E (tree l.templates.nodes l.fn.term) l.walk l.step

abbrev pub decreases-loop-walk : goal.decreases-loop-walk
decreases-loop-walk g l = turns_left l.walk l.step
