use Rattle.std.proofs.Common.{take}
use Rattle.reached_ends.specs.Leading.{StandsInBindings}
use Rattle.reached_ends.specs.Walks.{state_of, ComesFrom, Goes}
use Rattle.reached_ends.proofs.Going.{AreComing}
use Rattle.reached_ends.proofs.inside.take_store.Given as goal

abbrev pub invariant-loop-binding : goal.invariant-loop-binding
invariant-loop-binding l = Goes l.templates.nodes l.root.bindings (state_of l.fn.walk) (state_of l.walk) × AreComing l.templates.nodes (state_of l.walk) (take l.binding-index l.binding-items)
    × ComesFrom l.templates.nodes l.root.bindings (StandsInBindings l.templates.nodes l.binding-items) (state_of l.fn.walk) (state_of l.walk)
