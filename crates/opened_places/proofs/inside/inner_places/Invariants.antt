use Rattle.std.proofs.Common.{[], take}
use Rattle.opened_places.specs.Inner.{AddsEach}
use Rattle.opened_places.proofs.inside.inner_places.Given as goal

abbrev pub invariant-loop-name : goal.invariant-loop-name
invariant-loop-name l = AddsEach l.table l.fn.outer (take l.name-index l.boxes) [] l.places.items
