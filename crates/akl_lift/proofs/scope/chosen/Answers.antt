use Rattle.std.proofs.Common.{◌<◌, ◌++◌, ◌∷◌, [], length, get_or, ap, ◌∙◌, arith}
use Rattle.std.specs.List.{filter}
use Rattle.akl_lift.specs.Scopes.{is_chosen}
use Rattle.akl_lift.proofs.Loops.{filter_turn, filter_end}
use Rattle.akl_lift.proofs.scope.chosen.Goals as goal

pub loop-number-preserved : goal.loop-number-preserved
loop-number-preserved c =
    let within : c.loop-number.number-index < length c.args.scope.now.order.items = omega (arith, c.loop-number-test.true, c.loop-number.auto.number-index-end) in
    filter_turn (is_chosen c.args.scope.now c.args.inside.now) c.args.scope.now.order.items c.loop-number.found.items c.add_chosen.new.found.items c.loop-number.number-index within
    (c.in_ok-add_chosen.ensures ∙ ap (λ ns. c.loop-number.found.items ++ filter (is_chosen c.args.scope.now c.args.inside.now) (get_or ns c.loop-number.number-index 0 ∷ [])) c.deref-number-items.ensures.value) c.loop-number.invariant

pub returns : goal.returns
returns c = filter_end (is_chosen c.args.scope.now c.args.inside.now) c.args.scope.now.order.items c.loop-number.found.items c.loop-number.number-index (omega (arith, c.loop-number-test.false, c.loop-number.auto.number-index-end)) c.loop-number.invariant
