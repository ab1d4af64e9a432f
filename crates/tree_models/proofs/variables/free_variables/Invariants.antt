use Rattle.std.proofs.Common.{◌≡◌, take}
use Rattle.tree_models.specs.Variables.{free_variables}
use Rattle.tree_models.proofs.variables.free_variables.Given as goal

abbrev pub invariant-loop-seen : goal.invariant-loop-seen
invariant-loop-seen l = l.list.items ≡ free_variables (take l.seen-index l.seens)
