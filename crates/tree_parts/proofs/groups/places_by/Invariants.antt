use Rattle.std.proofs.Common.{◌≡◌, length}
use Rattle.tree_parts.specs.Lists.{ArePlaces}
use Rattle.tree_parts.proofs.Grouping.{items_of}
use Rattle.tree_parts.proofs.groups.places_by.Given as goal

abbrev pub invariant-loop-place : goal.invariant-loop-place
invariant-loop-place l = (length l.lists.items ≡ l.count) × ArePlaces l.numbers (items_of l.lists.items) l.place
