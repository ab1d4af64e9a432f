use Rattle.std.proofs.Common.{take}
use Rattle.why_report.specs.Classes.{AreFirst}
use Rattle.why_report.proofs.Firsts.{AreMet}
use Rattle.why_report.proofs.oldest.first_by_ends.Given as goal

abbrev pub invariant-loop-variable : goal.invariant-loop-variable
invariant-loop-variable g l = AreFirst l.templates.nodes (g.W.Lookup.bindings l.whole) (take l.variable-index l.sorted) l.list.items
    × AreMet l.templates.nodes (g.W.Lookup.bindings l.whole) (take l.variable-index l.sorted) l.met.keys
