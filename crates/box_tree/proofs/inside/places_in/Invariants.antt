use Rattle.std.proofs.Common.{◌≡◌, ◌++◌, drop}
use Rattle.box_tree.specs.Places.{places_in}
use Rattle.box_tree.proofs.inside.places_in.Given as goal

-- the places so far, and those in the boxes that are left
abbrev pub invariant-loop-inner : goal.invariant-loop-inner
invariant-loop-inner l = l.places.items ++ places_in (drop l.inner-index l.boxes) ≡ places_in l.boxes
