use Rattle.std.proofs.Common.{take}
use Rattle.why_report.specs.Waits.{values}
use Rattle.why_report.specs.Texts.{AreTexts, IsGoalLine}
use Rattle.why_report.specs.Written.{IsEndText, Adds}
use Rattle.why_report.proofs.lines.push_goals.Given as goal

abbrev pub invariant-loop-goal : goal.invariant-loop-goal
invariant-loop-goal g l = Adds (AreTexts (IsGoalLine (IsEndText l.templates.nodes (g.W.Lookup.bindings l.whole) l.shown)) (values (take l.goal-index l.waiting))) l.initial.text.items l.text.items
