use Rattle.reached_ends.specs.Walks.{state_of, weight, ComesFrom, Goes}
use Rattle.reached_ends.proofs.walk.Walk.finish.Given as goal

abbrev pub invariant-loop-term : goal.invariant-loop-term
invariant-loop-term l = Goes l.templates.nodes l.root.bindings (state_of l.fn.self) (state_of l.self) × ComesFrom l.templates.nodes l.root.bindings (λ _. ⊥) (state_of l.fn.self) (state_of l.self)

abbrev pub decreases-loop-term : goal.decreases-loop-term
decreases-loop-term l = weight l.self
