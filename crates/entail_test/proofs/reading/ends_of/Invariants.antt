use Rattle.std.proofs.Common.{take}
use Rattle.entail_test.specs.Classes.{AreEnds}
use Rattle.entail_test.proofs.reading.ends_of.Given as goal

abbrev pub invariant-loop-class : goal.invariant-loop-class
invariant-loop-class l = AreEnds l.ends (take l.class-index l.classes)
