use Rattle.std.proofs.Common.{◌<◌, length, arith}
use Rattle.akl_lift.specs.Lifting.{name_of}
use Rattle.akl_lift.proofs.Slots.{map_turn, map_end}
use Rattle.akl_lift.proofs.lifting.spellings.Goals as goal

pub loop-number-preserved : goal.loop-number-preserved
loop-number-preserved c =
    let within : c.loop-number.number-index < length c.args.order.now = omega (arith, c.loop-number-test.true, c.loop-number.auto.number-index-end) in
    map_turn (name_of c.args.names.now) c.args.order.now 0 c.loop-number.found.items c.push.new.self.items _ c.in_ok-name.name c.loop-number.number-index within c.in_ok-push.ensures.items c.in_ok-name.ensures c.loop-number.invariant

pub returns : goal.returns
returns c = map_end (name_of c.args.names.now) c.args.order.now c.loop-number.found.items _ c.loop-number.number-index (omega (arith, c.loop-number-test.false, c.loop-number.auto.number-index-end)) c.loop-number.invariant
