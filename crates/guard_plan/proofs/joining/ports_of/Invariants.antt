use Rattle.std.proofs.Common.{◌≡◌, ◌++◌, drop}
use Rattle.guard_plan.specs.Collecting.{ports_of}
use Rattle.guard_plan.proofs.joining.ports_of.Given as goal

abbrev pub invariant-loop-alternative : goal.invariant-loop-alternative
invariant-loop-alternative l = l.all.items ++ ports_of (drop l.alternative-index l.alternatives) ≡ ports_of l.alternatives
