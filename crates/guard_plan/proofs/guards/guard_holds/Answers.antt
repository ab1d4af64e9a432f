use Rattle.std.proofs.Common.{sym, subst, inl, inr}
use Rattle.std.specs.Prelude.{IfOk, IsTrue, ◌↔◌}
use Rattle.box_tree.specs.declared.entries.HeldOp.{HeldOp}
use Rattle.guard_plan.specs.Guards.{HoldsInside}
use Rattle.guard_plan.specs.Noisy.{AddsGuardNoise}
use Rattle.guard_plan.proofs.Noises.{unasked}
use Rattle.guard_plan.proofs.guards.guard_holds.Goals as goal

pub returns-in-Consistent-clause-noise : goal.returns-in-Consistent-clause-noise
returns-in-Consistent-clause-noise c = unasked c.args.op c.in-Choice.is c.args.chain.now.nodes c.args.chain.now.stores c.args.noise.now.items c.args.noise.now.items

pub returns-in-Clash-clause-noise : goal.returns-in-Clash-clause-noise
returns-in-Clash-clause-noise c = unasked c.args.op c.in-Choice.is c.args.chain.now.nodes c.args.chain.now.stores c.args.noise.now.items c.args.noise.now.items

pub returns-in-Condition-clause-holds : goal.returns-in-Condition-clause-holds
returns-in-Condition-clause-holds c = elim c.in-Condition.is [
  | inl e ↦ subst (λ (o : HeldOp). IfOk c.is_quiet.result (λ holds. IsTrue holds ↔ HoldsInside o c.args.chain.now.nodes c.args.chain.now.stores)) (sym e) c.is_quiet.ensures.holds
  | inr e ↦ subst (λ (o : HeldOp). IfOk c.is_quiet.result (λ holds. IsTrue holds ↔ HoldsInside o c.args.chain.now.nodes c.args.chain.now.stores)) (sym e) c.is_quiet.ensures.holds
]

pub returns-in-Condition-clause-noise : goal.returns-in-Condition-clause-noise
returns-in-Condition-clause-noise c = elim c.in-Condition.is [
  | inl e ↦ subst (λ (o : HeldOp). IfOk c.is_quiet.result (λ _. AddsGuardNoise o c.args.chain.now.nodes c.args.chain.now.stores c.args.noise.now.items c.is_quiet.new.noise.items)) (sym e) c.is_quiet.ensures.noise
  | inr e ↦ subst (λ (o : HeldOp). IfOk c.is_quiet.result (λ _. AddsGuardNoise o c.args.chain.now.nodes c.args.chain.now.stores c.args.noise.now.items c.is_quiet.new.noise.items)) (sym e) c.is_quiet.ensures.noise
]
