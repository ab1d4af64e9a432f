use Rattle.std.proofs.Common.{arith}
use Rattle.akl_syntax.specs.Answers.{clause_view}
use Rattle.clause_keys.specs.Conditions.{IsClauseLoadable}
use Rattle.clause_store.proofs.Sums.{more_taken, next_taken, clauses_sum, mapped_all}
use Rattle.clause_store.proofs.Defined.{clauses_start, clauses_more, clause_room}
use Rattle.clause_store.proofs.definitions.load_clauses.Goals as goal

pub loop-clause-init : goal.loop-clause-init
loop-clause-init c = rw c.new-loaded.ensures.items (clauses_start _)

pub load_clause-requires-clause-loadable : goal.load_clause-requires-clause-loadable
load_clause-requires-clause-loadable c = mapped_all (IsClauseLoadable c.args.callees.now) clause_view c.args.clauses.now c.loop-clause.clause-index c.clause-item.result (omega (arith, c.loop-clause-test.true, c.loop-clause.auto.clause-index-end)) c.clause-item.is c.requires.loadable

pub load_clause-requires-clause-room : goal.load_clause-requires-clause-room
load_clause-requires-clause-room c =
    clause_room c.requires.room c.loop-clause.invariant (next_taken clauses_sum clause_view c.args.clauses.now c.loop-clause.clause-index c.clause-item.result (omega (arith, c.loop-clause-test.true, c.loop-clause.auto.clause-index-end)) c.clause-item.is)

pub loop-clause-preserved : goal.loop-clause-preserved
loop-clause-preserved c =
    let taken = more_taken clause_view c.args.clauses.now c.loop-clause.clause-index c.clause-item.result (omega (arith, c.loop-clause-test.true, c.loop-clause.auto.clause-index-end)) c.clause-item.is in
    rw (taken, c.in_ok-push.ensures.items) (clauses_more c.loop-clause.invariant c.in_ok-next.ensures)
