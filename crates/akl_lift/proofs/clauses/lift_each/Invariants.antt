use Rattle.std.proofs.Common.{map, take, drop}
use Rattle.akl_syntax.specs.Answers.{clause_view, clauses_view}
use Rattle.akl_lift.proofs.Programs.{ClausesSoFar}
use Rattle.akl_lift.proofs.clauses.lift_each.Given as given

abbrev pub invariant-loop-clause : given.invariant-loop-clause
invariant-loop-clause l =
    ClausesSoFar l.fn.out.next (clauses_view l.fn.out.clauses) (map clause_view l.fn.clauses) l.out.next (map clause_view (take l.clause-index l.clauses)) (clauses_view l.out.clauses) (map clause_view (drop l.clause-index l.clauses))
