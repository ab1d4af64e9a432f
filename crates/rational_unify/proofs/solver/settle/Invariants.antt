use Rattle.std.proofs.Common.{◌++◌}
use Rattle.rational_unify.specs.Older.{KeepsOlder}
use Rattle.rational_unify.specs.Followed.{Settles}
use Rattle.rational_unify.proofs.solver.settle.Given as goal

abbrev pub invariant-loop-place : goal.invariant-loop-place
invariant-loop-place g l = Settles l.templates.nodes (g.K.Lookup.bindings l.known) l.initial.added l.added l.initial.followed.items l.followed.items
    × KeepsOlder l.templates.nodes (g.K.Lookup.bindings l.known ++ l.initial.added) (g.K.Lookup.bindings l.known ++ l.added)
