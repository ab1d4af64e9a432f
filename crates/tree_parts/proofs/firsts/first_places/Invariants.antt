use Rattle.tree_parts.proofs.Finding.{AreFound}
use Rattle.tree_parts.proofs.firsts.first_places.Given as goal

abbrev pub invariant-loop-place : goal.invariant-loop-place
invariant-loop-place l = AreFound l.keys l.known.entries l.firsts.items l.place
