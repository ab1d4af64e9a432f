use Rattle.std.proofs.Common.{◌<◌, length, arith, ap, ◌∙◌}
use Rattle.akl_lift.specs.Lifting.{seen_from}
use Rattle.akl_lift.proofs.FirstSeen.{lists_seen}
use Rattle.akl_lift.proofs.seen.seen_in_all.Goals as goal

pub loop-list-preserved : goal.loop-list-preserved
loop-list-preserved c =
    let within : c.loop-list.list-index < length c.args.lists.now = omega (arith, c.loop-list-test.true, c.loop-list.auto.list-index-end) in
    lists_seen c.args.lists.now c.loop-list.order.items c.add_unknowns.new.order.items _ c.loop-list.list-index c.list-item.result within c.list-item.is
    (c.in_ok-add_unknowns.ensures ∙ ap (seen_from c.loop-list.order.items) c.deref.ensures.value) c.loop-list.invariant
