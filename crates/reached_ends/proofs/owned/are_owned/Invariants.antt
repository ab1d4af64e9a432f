use Rattle.std.proofs.Common.{take}
use Rattle.reached_ends.specs.Reached.{AreOwned}
use Rattle.reached_ends.proofs.owned.are_owned.Given as goal

abbrev pub invariant-loop-variable : goal.invariant-loop-variable
invariant-loop-variable l = AreOwned l.stores (take l.variable-index l.variables)
