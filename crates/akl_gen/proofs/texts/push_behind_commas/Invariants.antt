use Rattle.std.proofs.Common.{◌≡◌, ◌++◌, take}
use Rattle.std.specs.List.{flat_map}
use Rattle.akl_gen.specs.Generated.{behind_comma}
use Rattle.akl_gen.proofs.texts.push_behind_commas.Given as goal

abbrev pub invariant-loop-element : goal.invariant-loop-element
invariant-loop-element l = l.text.items ≡ l.initial.text.items ++ flat_map behind_comma (take l.element-index l.elements)
