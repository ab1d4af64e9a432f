use Rattle.std.proofs.Common.{◌≡◌, ◌++◌, map, drop}
use Rattle.akl_lift.specs.Lifting.{name_of}
use Rattle.akl_lift.proofs.lifting.spellings.Given as given

abbrev pub invariant-loop-number : given.invariant-loop-number
invariant-loop-number l = l.found.items ++ map (name_of l.names) (drop l.number-index l.order) ≡ map (name_of l.names) l.order
