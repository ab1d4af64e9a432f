use Rattle.std.proofs.Common.{◌≡◌, map, take}
use Rattle.box_copies.specs.Renamer.{swapped_name, shown_by}
use Rattle.box_copies.proofs.goals.copied_shown.Given as goal

abbrev pub invariant-loop-term : goal.invariant-loop-term
invariant-loop-term l = l.copies.items ≡ map (shown_by (swapped_name l.names)) (take l.term-index l.shown)
