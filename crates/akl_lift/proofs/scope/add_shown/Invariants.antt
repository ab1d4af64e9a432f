use Rattle.std.proofs.Common.{◌≡◌, ◌++◌, drop}
use Rattle.akl_lift.specs.Lifting.{shown_from}
use Rattle.akl_lift.proofs.scope.add_shown.Given as goal

abbrev pub invariant-loop-index : goal.invariant-loop-index
invariant-loop-index l = l.found.items ++ shown_from l.index (drop l.index l.names) ≡ l.fn.found.items ++ shown_from 0 l.names
