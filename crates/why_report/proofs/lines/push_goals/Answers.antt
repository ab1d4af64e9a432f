use Rattle.std.proofs.Common.{arith}
use Rattle.rational_unify.proofs.Taking.{take-all}
use Rattle.why_report.specs.Texts.{IsGoalLine}
use Rattle.why_report.specs.Written.{IsEndText}
use Rattle.why_report.proofs.NamedTexts.{none_added, goals_added}
use Rattle.why_report.proofs.lines.push_goals.Goals as goal

pub loop-goal-init : goal.loop-goal-init
loop-goal-init g c = none_added (IsGoalLine (IsEndText c.args.templates.now.nodes (g.W.Lookup.bindings c.args.whole.now) c.args.shown.now)) c.args.text.now.items

pub loop-goal-preserved : goal.loop-goal-preserved
loop-goal-preserved g c = goals_added (IsEndText c.args.templates.now.nodes (g.W.Lookup.bindings c.args.whole.now) c.args.shown.now) c.args.waiting.now c.loop-goal.goal-index c.goal-item.result c.loop-goal-test.true c.goal-item.is
    c.args.text.now.items c.loop-goal.text.items c.push_goal.new.text.items c.loop-goal.invariant c.in_ok-push_goal.ensures

pub returns : goal.returns
returns g c = rw (take-all c.args.waiting.now c.loop-goal.goal-index (omega (arith, c.loop-goal-test.false, c.loop-goal.auto.goal-index-end))) at c.loop-goal.invariant
