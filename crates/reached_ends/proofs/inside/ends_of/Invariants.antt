use Rattle.std.proofs.Common.{◌≡◌, [], take}
use Rattle.std.specs.List.{AllByRecursion}
use Rattle.local_store.specs.Stored.{Stored}
use Rattle.reached_ends.specs.Reached.{AreBoundOver}
use Rattle.reached_ends.specs.Leading.{StandsInStores}
use Rattle.reached_ends.specs.Walks.{state_of, ComesFrom, Goes}
use Rattle.reached_ends.proofs.inside.ends_of.Given as goal

abbrev pub invariant-loop-store : goal.invariant-loop-store
invariant-loop-store l = Goes l.templates.nodes l.root.bindings (record { reached = []; ends = []; waiting = [] }) (state_of l.walk) × (l.walk.waiting.items ≡ [])
    × AllByRecursion (λ (s : Stored). AreBoundOver l.templates.nodes l.walk.reached.items s.bindings) (take l.store-index l.inner)
    × ComesFrom l.templates.nodes l.root.bindings (StandsInStores l.templates.nodes l.inner) (record { reached = []; ends = []; waiting = [] }) (state_of l.walk)
