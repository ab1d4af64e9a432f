use Rattle.std.proofs.Common.{◌≡◌, map, take}
use Rattle.tree_parts.specs.Firsts.{at_node}
use Rattle.tree_parts.proofs.groups.picked.Given as goal

abbrev pub invariant-loop-place : goal.invariant-loop-place
invariant-loop-place l = l.found.items ≡ map (at_node l.items) (take l.place-index l.places)
