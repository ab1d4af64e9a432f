use Rattle.std.proofs.Common.{◌≡◌, ◌+◌, take}
use Rattle.box_tree.specs.Starts.{goals_from}
use Rattle.box_tree.proofs.starting.first_goals.Given as goal

abbrev pub invariant-loop-code : goal.invariant-loop-code
invariant-loop-code l = (l.goals.items ≡ goals_from 2 (take l.code-index l.code-items)) × (l.number ≡ 2 + l.code-index)
