use Rattle.std.proofs.Common.{◌<◌, length, map, arith}
use Rattle.akl_syntax.specs.Answers.{clause_view, clauses_view}
use Rattle.akl_lift.proofs.Programs.{clauses_start}
use Rattle.akl_lift.proofs.Loops.{clauses_turn, clauses_room, clauses_done}
use Rattle.akl_lift.proofs.clauses.lift_each.Goals as goal

pub loop-clause-init : goal.loop-clause-init
loop-clause-init c = clauses_start c.args.out.now.next (clauses_view c.args.out.now.clauses) (map clause_view c.args.clauses.now)

pub lift_clause-requires : goal.lift_clause-requires
lift_clause-requires c =
    let within : c.loop-clause.clause-index < length c.loop-clause.clauses = omega (arith, c.loop-clause-test.true, c.loop-clause.auto.clause-index-end) in
    rw (← c.clause-item.is) (omega (arith, clauses_room c.loop-clause.clauses c.loop-clause.clause-index c.clause-item.result within c.clause-item.is c.loop-clause.invariant, c.requires))

pub loop-clause-preserved : goal.loop-clause-preserved
loop-clause-preserved c =
    let within : c.loop-clause.clause-index < length c.loop-clause.clauses = omega (arith, c.loop-clause-test.true, c.loop-clause.auto.clause-index-end) in
    clauses_turn c.loop-clause.clauses c.loop-clause.clause-index c.clause-item.result c.lift_clause.new.clause within c.clause-item.is c.loop-clause.invariant
    (rw (← c.clause-item.is) at c.in_ok-lift_clause.ensures.next) (rw (← c.clause-item.is) at c.in_ok-lift_clause.ensures.clause) (rw (← c.clause-item.is) at c.in_ok-lift_clause.ensures.made)

pub returns-clause-clauses : goal.returns-clause-clauses
returns-clause-clauses c = (clauses_done c.loop-clause.clauses c.loop-clause.clause-index (omega (arith, c.loop-clause-test.false, c.loop-clause.auto.clause-index-end)) c.loop-clause.invariant).found_are

pub returns-clause-made : goal.returns-clause-made
returns-clause-made c = (clauses_done c.loop-clause.clauses c.loop-clause.clause-index (omega (arith, c.loop-clause-test.false, c.loop-clause.auto.clause-index-end)) c.loop-clause.invariant).made_are
