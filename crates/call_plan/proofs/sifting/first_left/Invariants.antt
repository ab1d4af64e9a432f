use Rattle.std.proofs.Common.{length}
use Rattle.call_plan.proofs.SiftingOn.{Passing}
use Rattle.call_plan.proofs.sifting.first_left.Given as goal

abbrev pub invariant-loop-clause : goal.invariant-loop-clause
invariant-loop-clause l = Passing l.chain.symbols l.chain.nodes l.chain.stores l.arguments l.fn.first l.clauses l.fn.sifted.labels.items l.fn.sifted.plainly l.sifted.labels.items l.sifted.plainly l.name l.rest

abbrev pub decreases-loop-clause : goal.decreases-loop-clause
decreases-loop-clause l = length l.rest
