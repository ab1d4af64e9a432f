use Rattle.std.proofs.Common.{◌≡◌, ◌++◌, map, take}
use Rattle.box_tree.specs.declared.inside.InnerGoal.{InnerGoal}
use Rattle.box_copies.proofs.gathering.add_goals.Given as goal

abbrev pub invariant-loop-goal : goal.invariant-loop-goal
invariant-loop-goal l = l.names.items ≡ l.fn.names.items ++ map (λ (g : InnerGoal). g.name) (take l.goal-index l.goals)
