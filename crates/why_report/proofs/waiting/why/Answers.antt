use Rattle.std.proofs.Common.{◌∙◌, arith}
use Rattle.rational_unify.proofs.Taking.{take-all}
use Rattle.why_report.proofs.GoalsFound.{waiting_push, all_wait}
use Rattle.why_report.proofs.waiting.why.Goals as goal

pub loop-goal-preserved : goal.loop-goal-preserved
loop-goal-preserved c = rw c.in_ok-push.ensures.items
    (waiting_push c.args.core.now c.as_slice-goal-items.result.now c.loop-goal.goal-index _ c.loop-goal-test.true c.loop-goal.list.items c.in_ok-waiting.waiting c.loop-goal.invariant c.in_ok-waiting.ensures.goal c.in_ok-waiting.ensures.on)

pub returns : goal.returns
returns c =
    let all = c.loop-goal.invariant.0 ∙ take-all c.as_slice-goal-items.result.now c.loop-goal.goal-index (omega (arith, c.loop-goal-test.false, c.loop-goal.auto.goal-index-end)) ∙ c.as_slice-goal-items.ensures.value ∙ c.in_ok-goals.ensures in
    all_wait c.args.core.now c.args.root c.loop-goal.list.items (rw c.table.ensures.table at all) c.loop-goal.invariant.1
