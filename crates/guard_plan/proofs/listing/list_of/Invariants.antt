use Rattle.std.proofs.Common.{◌≡◌, ◌+◌, ◌++◌, take, drop}
use Rattle.guard_plan.specs.Collecting.{AreCollected, list_equations}
use Rattle.guard_plan.proofs.listing.list_of.Given as goal

abbrev pub invariant-loop-alternative : goal.invariant-loop-alternative
invariant-loop-alternative l = (l.frame.worker ≡ l.fn.first.worker) × (l.frame.number ≡ l.fn.first.number + l.alternative-index) × AreCollected (take l.alternative-index l.alternatives)
    × (l.equations.items ++ list_equations l.program.cell l.last l.fn.first.worker l.frame.number l.rest (drop l.alternative-index l.alternatives)
    ≡ list_equations l.program.cell l.last l.fn.first.worker l.fn.first.number l.fn.list l.alternatives)
