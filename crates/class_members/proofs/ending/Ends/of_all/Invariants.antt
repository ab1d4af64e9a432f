use Rattle.std.proofs.Common.{take}
use Rattle.class_members.specs.Listed.{AreEnds}
use Rattle.class_members.proofs.ending.Ends.of_all.Given as goal

abbrev pub invariant-loop-variable : goal.invariant-loop-variable
invariant-loop-variable g l = AreEnds l.templates.nodes (g.W.Lookup.bindings l.whole) (take l.variable-index l.variables) l.ends
