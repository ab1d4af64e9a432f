use Rattle.guard_plan.specs.Planned.{HasNoRule}
use Rattle.stable_test.specs.Seen.{IsOfProgram}
use Rattle.stable_test.proofs.ViewByView.{one_of_all, all_next}
use Rattle.stable_test.proofs.stability.none_applies.Goals as goal

pub none_applies_at-requires : goal.none_applies_at-requires
none_applies_at-requires c = one_of_all (IsOfProgram c.args.program.now) c.args.views.now c.loop-view.view-index c.view-item.result c.loop-view-test.true c.view-item.is c.requires

pub loop-view-preserved : goal.loop-view-preserved
loop-view-preserved c = all_next HasNoRule c.args.views.now c.loop-view.view-index c.view-item.result c.loop-view-test.true c.view-item.is c.loop-view.invariant
    (c.in_ok-none_applies_at.ensures.0 c.if-not-branch.false)
