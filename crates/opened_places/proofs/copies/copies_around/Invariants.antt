use Rattle.opened_places.proofs.CopyHomes.{LeadsOut}
use Rattle.opened_places.proofs.copies.copies_around.Given as goal

-- where these are around one of the copies passed, so are they and those passed
abbrev pub invariant-loop-at : goal.invariant-loop-at
invariant-loop-at l = LeadsOut l.homes.entries l.fn.holder l.at l.names.items

abbrev pub decreases-loop-at : goal.decreases-loop-at
decreases-loop-at l = l.left
