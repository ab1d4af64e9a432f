use Rattle.std.proofs.Common.{map}
use Rattle.akl_syntax.specs.Answers.{clause_view, clauses_view}
use Rattle.clause_store.specs.Groups.{AreGathered}
use Rattle.clause_store.proofs.groups.gather.Given as goal

abbrev pub invariant-loop-clause : goal.invariant-loop-clause
invariant-loop-clause l = AreGathered l.fn.callees (map clause_view l.yielded) l.callees (map clauses_view l.groups.items)
