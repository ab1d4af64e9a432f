use Rattle.std.proofs.Common.{◌≡◌, ◌++◌, map, drop}
use Rattle.term_syntax.specs.View.{tree}
use Rattle.akl_lift.specs.Places.{placed_variable}
use Rattle.akl_lift.proofs.places.placed_variables.Given as given

abbrev pub invariant-loop-number : given.invariant-loop-number
invariant-loop-number l = map tree l.found.items ++ map (placed_variable l.order) (drop l.number-index l.numbers) ≡ map (placed_variable l.order) l.numbers
