use Rattle.std.proofs.Common.{length, map, ◌+◌, ◌*◌}
use Rattle.akl_syntax.specs.GoalView.{goal, part}
use Rattle.akl_syntax.proofs.PartTurns.{GoalsSoFar, PartsSoFar}
use Rattle.akl_syntax.proofs.goals.+goals.Given as given

abbrev pub decreases-goal : given.decreases-goal
decreases-goal l = 10 * length l.lexemes.now + 1

abbrev pub decreases-collected : given.decreases-collected
decreases-collected l = 10 * length l.lexemes.now + 6

abbrev pub decreases-conj : given.decreases-conj
decreases-conj l = 10 * length l.lexemes.now + 2

abbrev pub decreases-guarded : given.decreases-guarded
decreases-guarded l = 10 * length l.lexemes.now + 3

abbrev pub decreases-part : given.decreases-part
decreases-part l = 10 * length l.lexemes.now + 4

abbrev pub decreases-alternatives : given.decreases-alternatives
decreases-alternatives l = 10 * length l.lexemes.now

abbrev pub decreases-bracketed : given.decreases-bracketed
decreases-bracketed l = 10 * length l.lexemes.now + 5

abbrev pub invariant-conj-loop-after : given.invariant-conj-loop-after
invariant-conj-loop-after l = GoalsSoFar l.fn.lexemes (map goal l.goals.items) l.rest

abbrev pub decreases-conj-loop-after : given.decreases-conj-loop-after
decreases-conj-loop-after l = length l.rest

abbrev pub invariant-alternatives-loop-after : given.invariant-alternatives-loop-after
invariant-alternatives-loop-after l = PartsSoFar (part l.fn.first) l.fn.lexemes (map part l.parts.items) l.rest

abbrev pub decreases-alternatives-loop-after : given.decreases-alternatives-loop-after
decreases-alternatives-loop-after l = length l.rest
