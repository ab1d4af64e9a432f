use Rattle.std.proofs.Common.{◌++◌}
use Rattle.rational_unify.specs.Older.{KeepsOlder}
use Rattle.rational_unify.specs.Shortened.{KeepsEnds}
use Rattle.rational_unify.proofs.one_pass.shorten.Given as goal

abbrev pub invariant-loop-place : goal.invariant-loop-place
invariant-loop-place g l = KeepsEnds l.templates.nodes (g.K.Lookup.bindings l.known) l.initial.added l.added
    × KeepsOlder l.templates.nodes (g.K.Lookup.bindings l.known ++ l.initial.added) (g.K.Lookup.bindings l.known ++ l.added)
