use Rattle.akl_syntax.specs.Answers.{clauses_view}
use Rattle.akl_lift.proofs.Joined.{JoinedSoFar}
use Rattle.akl_lift.proofs.clauses.add_definitions.Given as given

abbrev pub invariant-loop-definition : given.invariant-loop-definition
invariant-loop-definition l = JoinedSoFar (clauses_view l.fn.clauses) l.fn.definitions (clauses_view l.clauses) l.definitions l.definition-index
