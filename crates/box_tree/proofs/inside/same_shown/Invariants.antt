use Rattle.std.proofs.Common.{◌≡◌, take}
use Rattle.box_tree.proofs.inside.same_shown.Given as goal

abbrev pub invariant-loop-term : goal.invariant-loop-term
invariant-loop-term l = l.terms.items ≡ take l.term-index l.shown
