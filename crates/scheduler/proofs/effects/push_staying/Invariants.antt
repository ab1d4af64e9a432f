use Rattle.std.proofs.Common.{◌≡◌, ◌++◌, take}
use Rattle.opened_places.specs.Placed.{places_of}
use Rattle.scheduler.specs.Listing.{places_but}
use Rattle.scheduler.proofs.effects.push_staying.Given as goal

abbrev pub invariant-loop-placed : goal.invariant-loop-placed
invariant-loop-placed l = l.places.items ≡ l.fn.places.items ++ places_but l.gone (places_of (take l.placed-index l.inside))
