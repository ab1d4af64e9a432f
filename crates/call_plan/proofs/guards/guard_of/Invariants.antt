use Rattle.std.proofs.Common.{[], ◌∷◌, ◌++◌, length}
use Rattle.call_plan.specs.Owns.{stored}
use Rattle.call_plan.proofs.EvaluatingOn.{Evaluating}
use Rattle.call_plan.proofs.guards.guard_of.Given as goal

abbrev pub invariant-loop-code : goal.invariant-loop-code
invariant-loop-code l = Evaluating l.chain.symbols l.chain.nodes (l.chain.stores ++ stored l.frame l.own ∷ []) l.frame l.codes l.fn.labels.items l.labels.items l.goal l.rest

abbrev pub decreases-loop-code : goal.decreases-loop-code
decreases-loop-code l = length l.rest
