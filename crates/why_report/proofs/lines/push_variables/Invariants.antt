use Rattle.std.proofs.Common.{take}
use Rattle.why_report.specs.Texts.{AreTexts, IsFurtherText}
use Rattle.why_report.specs.Written.{IsEndText, Adds}
use Rattle.why_report.proofs.lines.push_variables.Given as goal

abbrev pub invariant-loop-variable : goal.invariant-loop-variable
invariant-loop-variable g l = Adds (AreTexts (IsFurtherText (IsEndText l.templates.nodes (g.W.Lookup.bindings l.whole) l.shown)) (take l.variable-index l.others)) l.initial.text.items l.text.items
