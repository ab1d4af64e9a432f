use Rattle.std.proofs.Common.{drop}
use Rattle.rule_plan.proofs.Solving.{IsSolving}
use Rattle.rule_plan.proofs.stores.solved_stores.Given as goal

abbrev pub invariant-loop-store : goal.invariant-loop-store
invariant-loop-store l = IsSolving l.chain.nodes l.chain.stores l.stores.items (drop l.store-index (drop l.known l.chain.stores))
