use Rattle.stable_test.specs.Reaching.{IsTestable, ReachesNoneAt}
use Rattle.stable_test.proofs.ViewByView.{one_of_all, all_next}
use Rattle.stable_test.proofs.stability.none_reached.Goals as goal

pub reaches_none-requires : goal.reaches_none-requires
reaches_none-requires c = one_of_all (IsTestable c.args.program.now c.args.depth c.args.frames.now) c.args.views.now c.loop-view.view-index c.view-item.result c.loop-view-test.true c.view-item.is c.requires

pub loop-view-preserved : goal.loop-view-preserved
loop-view-preserved c = all_next (ReachesNoneAt c.args.program.now c.args.depth c.args.frames.now) c.args.views.now c.loop-view.view-index c.view-item.result c.loop-view-test.true c.view-item.is c.loop-view.invariant
    (c.in_ok-reaches_none.ensures.0 c.if-not-branch.false)
