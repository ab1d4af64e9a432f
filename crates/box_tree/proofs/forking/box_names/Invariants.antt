use Rattle.std.proofs.Common.{◌≡◌, map, take}
use Rattle.box_tree.specs.declared.step.NewBox.{NewBox}
use Rattle.box_tree.proofs.forking.box_names.Given as goal

abbrev pub invariant-loop-new : goal.invariant-loop-new
invariant-loop-new l = l.names.items ≡ map (λ (n : NewBox). n.name) (take l.new-index l.news)
