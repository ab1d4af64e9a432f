use Rattle.std.proofs.Common.{length, ◌+◌, ◌++◌}
use Rattle.rational_unify.specs.Older.{KeepsOlder}
use Rattle.rational_unify.proofs.Passes.{PassGoes}
use Rattle.rational_unify.proofs.one_pass.solve_few.Given as goal

abbrev pub invariant-loop-pair : goal.invariant-loop-pair
invariant-loop-pair g l = PassGoes l.templates.nodes (g.K.Lookup.bindings l.known) l.equations l.pass.added l.pass.pending
    × KeepsOlder l.templates.nodes (g.K.Lookup.bindings l.known) (g.K.Lookup.bindings l.known ++ l.pass.added)

-- each turn takes a pair away, or lets fewer pairs of arguments wait
abbrev pub decreases-loop-pair : goal.decreases-loop-pair
decreases-loop-pair g l = l.pass.pairs_left + length l.pass.pending
