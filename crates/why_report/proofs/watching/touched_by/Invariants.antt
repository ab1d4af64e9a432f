use Rattle.std.proofs.Common.{take, map}
use Rattle.why_report.specs.Sights.{AreTouchedBy}
use Rattle.why_report.proofs.watching.touched_by.Given as goal

abbrev pub invariant-loop-alternative : goal.invariant-loop-alternative
invariant-loop-alternative l = AreTouchedBy l.core (map (λ a. a.name) (take l.alternative-index l.view.alternatives)) l.of.items
