use Rattle.std.proofs.Common.{take}
use Rattle.guard_plan.specs.Guards.{AreAllSolved}
use Rattle.guard_plan.proofs.collecting.are_solved.Given as goal

abbrev pub invariant-loop-alternative : goal.invariant-loop-alternative
invariant-loop-alternative l = AreAllSolved (take l.alternative-index l.alternatives)
