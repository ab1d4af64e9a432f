use Rattle.std.proofs.Common.{take}
use Rattle.idle_plan.specs.Waits.{AreMembersOfAll}
use Rattle.idle_plan.proofs.goals.members_of_all.Given as goal

abbrev pub invariant-loop-one : goal.invariant-loop-one
invariant-loop-one l = AreMembersOfAll l.chain.nodes l.chain.stores (take l.one-index l.noise) l.list.items
