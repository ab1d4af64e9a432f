use Rattle.std.proofs.Common.{◌≡◌, ◌++◌, map}
use Rattle.std.specs.List.{AllByRecursion}
use Rattle.box_tree.specs.declared.inside.InnerGoal.{InnerGoal}
use Rattle.box_tree.specs.Insides.{IsInnerGoal}
use Rattle.box_tree.proofs.table.Table.inner_goals.Given as goal

-- the names so far, and those that are left; and the contents so far
abbrev pub invariant-loop-goal : goal.invariant-loop-goal
invariant-loop-goal l = (map (λ (g : InnerGoal). g.name) l.inner.items ++ l.goal-iterator ≡ l.goals.keys) × AllByRecursion (IsInnerGoal l.self) l.inner.items
