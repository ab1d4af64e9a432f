use Rattle.std.proofs.Common.{length, map}
use Rattle.cycle_marks.proofs.Steps.{JoinsOn}
use Rattle.cycle_marks.proofs.search.Search.join.Given as goal

abbrev pub invariant-loop-base : goal.invariant-loop-base
invariant-loop-base l = JoinsOn (map (λ v. v.items) l.rows) l.target l.fn.self l.self

abbrev pub decreases-loop-base : goal.decreases-loop-base
decreases-loop-base l = length l.self.path
