use Rattle.std.proofs.Common.{◌≡◌, take}
use Rattle.box_copies.specs.Made.{kept_names}
use Rattle.box_copies.proofs.gathering.listed_names.Given as goal

abbrev pub invariant-loop-inner : goal.invariant-loop-inner
invariant-loop-inner l = l.names.items ≡ kept_names l.alternative (take l.inner-index l.boxes)
