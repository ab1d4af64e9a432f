use Rattle.std.proofs.Common.{◌≡◌, ◌+◌, ◌-◌, ◌≤◌, min}
use Rattle.rule_plan.specs.Made.{heads}
use Rattle.call_plan.proofs.heads.head_equations.Given as goal

abbrev pub invariant-loop-left : goal.invariant-loop-left
invariant-loop-left l = (l.left ≤ min l.arguments.count l.clause.count)
    × (l.list.items ≡ heads l.arguments.frame (l.arguments.first + l.left) (l.arguments.count - l.left) l.frame (l.clause.first + l.left) (l.clause.count - l.left))

abbrev pub decreases-loop-left : goal.decreases-loop-left
decreases-loop-left l = l.left
