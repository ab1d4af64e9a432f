use Rattle.std.proofs.Common.{◌<◌, length, map, arith}
use Rattle.akl_syntax.specs.Answers.{clause_view}
use Rattle.variable_scopes.proofs.ClauseLists.{clauses_start, clauses_room, clauses_turn, clauses_end}
use Rattle.variable_scopes.proofs.clauses.scope_each.Goals as goal

pub loop-clause-init : goal.loop-clause-init
loop-clause-init c = clauses_start (map clause_view c.args.clauses.now) c.requires

pub scope_clause-requires : goal.scope_clause-requires
scope_clause-requires c =
    let within : c.loop-clause.clause-index < length c.loop-clause.clauses = omega (arith, c.loop-clause-test.true, c.loop-clause.auto.clause-index-end) in
    rw (← c.clause-item.is) (clauses_room c.loop-clause.clauses c.loop-clause.clause-index c.clause-item.result within c.clause-item.is c.loop-clause.invariant)

pub loop-clause-preserved : goal.loop-clause-preserved
loop-clause-preserved c =
    let within : c.loop-clause.clause-index < length c.loop-clause.clauses = omega (arith, c.loop-clause-test.true, c.loop-clause.auto.clause-index-end) in
    clauses_turn c.loop-clause.clauses c.loop-clause.clause-index c.clause-item.result c.scope_clause.new.clause within c.clause-item.is (rw (← c.clause-item.is) at c.in_ok-scope_clause.ensures) c.loop-clause.invariant

pub returns : goal.returns
returns c = clauses_end c.loop-clause.clauses c.loop-clause.clause-index (omega (arith, c.loop-clause-test.false, c.loop-clause.auto.clause-index-end)) c.loop-clause.invariant
