use Rattle.stable_test.specs.Inner.{IsInnerView}
use Rattle.stable_test.proofs.ViewByView.{one_of_all, listed_next}
use Rattle.stable_test.proofs.inside.all_reached.Goals as goal

pub reached-requires : goal.reached-requires
reached-requires c = one_of_all (IsInnerView c.args.program.now c.args.depth c.args.frames.now) c.args.views.now c.loop-view.view-index c.view-item.result c.loop-view-test.true c.view-item.is c.requires

pub loop-view-preserved : goal.loop-view-preserved
loop-view-preserved c = rw (c.in_ok-extend_from_slice.ensures.items, c.as_slice.ensures.value)
    (listed_next c.args.program.now c.args.depth c.args.frames.now c.args.views.now c.loop-view.view-index c.view-item.result c.loop-view-test.true c.view-item.is c.loop-view.list.items c.in_ok-more.more.items c.loop-view.invariant c.in_ok-more.ensures)
