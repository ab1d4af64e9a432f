use Rattle.std.proofs.Common.{◌≡◌, take}
use Rattle.tree_models.specs.Texts.{above}
use Rattle.tree_models.proofs.text.above.Given as goal

abbrev pub invariant-loop-place : goal.invariant-loop-place
invariant-loop-place l = l.end ≡ above l.low (take l.place-index l.places)
