use Rattle.std.proofs.Common.{◌≡◌, map, take}
use Rattle.box_copies.specs.Renamer.{swapped_name}
use Rattle.box_copies.specs.Made.{without}
use Rattle.box_copies.proofs.goals.swapped_others.Given as goal

abbrev pub invariant-loop-name : goal.invariant-loop-name
invariant-loop-name l = l.others.items ≡ map (swapped_name l.names) (without l.alternative (take l.name-index l.alternatives))
