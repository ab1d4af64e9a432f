use Rattle.std.proofs.Common.{length, List, ◌++◌}
use Rattle.akl_terms.specs.declared.name.Var.{Var}
use Rattle.akl_terms.specs.declared.term.Term.{Term}
use Rattle.rational_unify.specs.Known.{IsSolved}
use Rattle.rational_unify.specs.Older.{KeepsOlder}
use Rattle.rational_unify.specs.Followed.{AgreeOn}
use Rattle.rational_unify.proofs.Turns.{GoesOn, turns_left}
use Rattle.rational_unify.proofs.solver.solved_along.Given as goal

abbrev pub invariant-loop-pair : goal.invariant-loop-pair
invariant-loop-pair g l = ((other : List (Var × Term)) → IsSolved l.templates.nodes other → AgreeOn l.followed.items (g.K.Lookup.bindings l.known) other → GoesOn l.templates.nodes other l.equations l.work)
    × KeepsOlder l.templates.nodes (g.K.Lookup.bindings l.known) (g.K.Lookup.bindings l.known ++ l.work.added)

-- each turn takes a pair away, or takes memory for a binding or a comparison
abbrev pub decreases-loop-pair : goal.decreases-loop-pair
decreases-loop-pair g l = turns_left (length l.work.added) (length l.work.compared) (length l.work.pending)
