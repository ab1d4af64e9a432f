use Rattle.std.proofs.Common.{◌<◌, length, map, arith}
use Rattle.term_syntax.specs.View.{tree}
use Rattle.akl_lift.specs.Places.{placed_variable}
use Rattle.akl_lift.proofs.Slots.{map_end}
use Rattle.akl_lift.proofs.Placed.{variable_turn}
use Rattle.akl_lift.proofs.places.placed_variables.Goals as goal

pub loop-number-preserved : goal.loop-number-preserved
loop-number-preserved c =
    let within : c.loop-number.number-index < length c.args.numbers.now = omega (arith, c.loop-number-test.true, c.loop-number.auto.number-index-end) in
    variable_turn c.args.order.now c.args.numbers.now c.loop-number.found.items c.push.new.self.items _ c.place.result c.loop-number.number-index within c.in_ok-push.ensures.items c.place.ensures c.loop-number.invariant

pub returns : goal.returns
returns c = map_end (placed_variable c.args.order.now) c.args.numbers.now (map tree c.loop-number.found.items) _ c.loop-number.number-index (omega (arith, c.loop-number-test.false, c.loop-number.auto.number-index-end)) c.loop-number.invariant
