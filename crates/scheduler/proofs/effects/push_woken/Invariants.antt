use Rattle.std.proofs.Common.{◌≡◌, ◌++◌, take}
use Rattle.scheduler.specs.Listing.{waiting_on}
use Rattle.scheduler.proofs.effects.push_woken.Given as goal

abbrev pub invariant-loop-variable : goal.invariant-loop-variable
invariant-loop-variable l = l.places.items ≡ l.fn.places.items ++ waiting_on l.waits (take l.variable-index l.binds)
