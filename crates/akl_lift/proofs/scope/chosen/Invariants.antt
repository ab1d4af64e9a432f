use Rattle.std.proofs.Common.{◌≡◌, ◌++◌, drop}
use Rattle.std.specs.List.{filter}
use Rattle.akl_lift.specs.Scopes.{chosen, is_chosen}
use Rattle.akl_lift.proofs.scope.chosen.Given as given

abbrev pub invariant-loop-number : given.invariant-loop-number
invariant-loop-number l = l.found.items ++ filter (is_chosen l.scope l.inside) (drop l.number-index l.scope.order.items) ≡ chosen l.scope l.inside
