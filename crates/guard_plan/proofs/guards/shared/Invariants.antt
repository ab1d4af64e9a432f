use Rattle.std.proofs.Common.{◌≡◌, ◌++◌, drop}
use Rattle.guard_plan.proofs.guards.shared.Given as goal

abbrev pub invariant-loop-store : goal.invariant-loop-store
invariant-loop-store l = l.stores.items ++ drop l.store-index l.path ≡ l.path
