use Rattle.std.proofs.Common.{map, take, drop}
use Rattle.akl_syntax.specs.Answers.{clause_view}
use Rattle.variable_scopes.proofs.ClauseLists.{ClausesGoing}
use Rattle.variable_scopes.proofs.clauses.scope_each.Given as given

abbrev pub invariant-loop-clause : given.invariant-loop-clause
invariant-loop-clause l = ClausesGoing (map clause_view l.fn.clauses) (map clause_view (take l.clause-index l.clauses)) (map clause_view (drop l.clause-index l.clauses))
