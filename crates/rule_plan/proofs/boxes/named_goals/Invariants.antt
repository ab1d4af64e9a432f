use Rattle.std.proofs.Common.{◌≡◌, ◌+◌, ◌++◌, drop}
use Rattle.rule_plan.specs.Made.{named_under}
use Rattle.rule_plan.proofs.boxes.named_goals.Given as goal

abbrev pub invariant-loop-code : goal.invariant-loop-code
invariant-loop-code l = (l.goals.items ++ named_under l.frame (l.number + 1) (drop l.code-index l.codes) ≡ named_under l.frame (l.frame.number + 1) l.codes) × (l.number ≡ l.frame.number + l.code-index)
