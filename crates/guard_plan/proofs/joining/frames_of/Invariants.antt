use Rattle.std.proofs.Common.{◌≡◌, ◌+◌, ◌++◌, drop}
use Rattle.guard_plan.specs.Collecting.{frames_of}
use Rattle.guard_plan.proofs.joining.frames_of.Given as goal

abbrev pub invariant-loop-alternative : goal.invariant-loop-alternative
invariant-loop-alternative l = (l.frame.worker ≡ l.fn.first.worker) × (l.frame.number ≡ l.fn.first.number + l.alternative-index)
    × (l.all.items ++ frames_of l.fn.first.worker l.frame.number (drop l.alternative-index l.alternatives) ≡ frames_of l.fn.first.worker l.fn.first.number l.alternatives)
