use Rattle.std.proofs.Common.{◌≡◌, ◌++◌, take}
use Rattle.std.specs.List.{flat_map}
use Rattle.tree_models.specs.Texts.{behind_comma}
use Rattle.tree_models.proofs.cell_text.push_behind_commas.Given as goal

abbrev pub invariant-loop-place : goal.invariant-loop-place
invariant-loop-place l = l.out.items ≡ l.fn.out.items ++ flat_map behind_comma (take l.place-index l.places)
