use Rattle.reached_ends.proofs.Going.{Spreads}
use Rattle.reached_ends.proofs.walk.Walk.spread.Given as goal

abbrev pub invariant-loop-index : goal.invariant-loop-index
invariant-loop-index l = Spreads l.fn.self l.self l.first l.count l.frame l.index
