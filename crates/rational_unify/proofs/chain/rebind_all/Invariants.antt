use Rattle.std.proofs.Common.{take}
use Rattle.rational_unify.specs.Followed.{ReboundAll}
use Rattle.rational_unify.proofs.chain.rebind_all.Given as goal

abbrev pub invariant-loop-variable : goal.invariant-loop-variable
invariant-loop-variable l = ReboundAll l.term l.initial.added (take l.variable-index l.variables) l.added
