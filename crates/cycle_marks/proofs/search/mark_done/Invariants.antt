use Rattle.cycle_marks.proofs.Marking.{AreMarkedBefore}
use Rattle.cycle_marks.proofs.search.mark_done.Given as goal

abbrev pub invariant-loop-node : goal.invariant-loop-node
invariant-loop-node l = AreMarkedBefore l.nodes l.number l.initial.marks l.marks l.node-index
