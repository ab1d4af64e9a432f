use Rattle.std.proofs.Common.{◌≡◌, length, arith}
use Rattle.std.proofs.lemmas.Option.{slice_get_read}
use Rattle.clause_checks.specs.Tallies.{again, at_first}
use Rattle.clause_checks.proofs.tally.count.Goals as goal

pub returns-then-definition-len : goal.returns-then-definition-len
returns-then-definition-len c = again (slice_get_read c.args.tallies.now.items c.len.result c.args.definition c.index-before.result.now (omega arith) c.if-definition-len.true c.index-before.ensures)

pub returns : goal.returns
returns c =
    let e : c.args.definition ≡ length c.args.tallies.now.items = omega arith in
    rw (c.in_ok-push.ensures.items, e) at_first
