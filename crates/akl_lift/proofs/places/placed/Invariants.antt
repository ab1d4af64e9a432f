use Rattle.std.proofs.Common.{◌≡◌, ◌++◌, map, drop}
use Rattle.akl_lift.specs.Places.{place}
use Rattle.akl_lift.proofs.places.placed.Given as given

abbrev pub invariant-loop-number : given.invariant-loop-number
invariant-loop-number l = l.found.items ++ map (place l.order) (drop l.number-index l.numbers) ≡ map (place l.order) l.numbers
