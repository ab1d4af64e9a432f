use Rattle.std.proofs.Common.{◌<◌, length, arith}
use Rattle.akl_lift.proofs.FirstSeen.{seen_turn}
use Rattle.akl_lift.proofs.seen.add_unknowns.Goals as goal

pub loop-number-preserved : goal.loop-number-preserved
loop-number-preserved c =
    let within : c.loop-number.number-index < length c.args.numbers.now = omega (arith, c.loop-number-test.true, c.loop-number.auto.number-index-end) in
    seen_turn c.args.numbers.now c.loop-number.order.items c.add_unknown.new.order.items _ c.loop-number.number-index within c.in_ok-add_unknown.ensures c.loop-number.invariant
