use Rattle.std.proofs.Common.{refl, arith}
use Rattle.clause_checks.specs.declared.listed.Listed.{Listed}
use Rattle.clause_checks.proofs.Listings.{op_is}
use Rattle.clause_checks.proofs.Tallying.{number_bound}
use Rattle.clause_checks.proofs.listed.Listing.add.Goals as goal

pub count-requires-clause-within : goal.count-requires-clause-within
count-requires-clause-within c = omega (arith, number_bound c.in_ok-definition.ensures.ok, c.requires.lengths)

pub count-requires-clause-few : goal.count-requires-clause-few
count-requires-clause-few c = λ t e. c.requires.few _ t e

pub returns : goal.returns
returns c =
    let entry : Listed = record { clause = c.args.clause; goals = c.in_ok-goals.goals; before = c.in_ok-before.before } in
    record { entry = entry; clauses = c.in_ok-push.ensures.items; clause = refl; goals = c.in_ok-goals.ensures; definition = c.in_ok-definition.definition; callees = c.in_ok-definition.ensures.ok; tally = rw (op_is c.args.clause.now) c.in_ok-before.ensures }
