use Rattle.std.proofs.Common.{◌<◌, length, arith}
use Rattle.clause_checks.proofs.Lists.{drop_front}
use Rattle.clause_checks.proofs.Searches.{search_found, search_next}
use Rattle.clause_checks.proofs.definitions.first_crowded.Goals as goal

pub returns-in-Some : goal.returns-in-Some
returns-in-Some c =
    let inside : c.loop-clause.clause-index < length c.args.listed.now = omega (arith, c.loop-clause-test.true, c.loop-clause.auto.clause-index-end) in
    search_found (rw (drop_front c.args.listed.now c.loop-clause.clause-index c.clause-item.result inside c.clause-item.is) at c.loop-clause.invariant) c.in-Some.ensures

pub loop-clause-preserved : goal.loop-clause-preserved
loop-clause-preserved c =
    let inside : c.loop-clause.clause-index < length c.args.listed.now = omega (arith, c.loop-clause-test.true, c.loop-clause.auto.clause-index-end) in
    search_next (rw (drop_front c.args.listed.now c.loop-clause.clause-index c.clause-item.result inside c.clause-item.is) at c.loop-clause.invariant) c.in_default.ensures
