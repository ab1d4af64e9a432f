use Rattle.std.proofs.Common.{sym, ◌∙◌}
use Rattle.local_store.proofs.Steps.{found_in-next, found_in-here, one-in, other-in}
use Rattle.local_store.proofs.listed.first_in.Goals as goal

pub returns-then-eq : goal.returns-then-eq
returns-then-eq c = found_in-here c.args.bindings.now c.loop-binding.binding-index _ c.args.variable _ c.loop-binding-test.true c.loop-binding.invariant (one-in _ c.args.variable (sym c.eq.ensures ∙ c.if-eq.true))

pub loop-binding-preserved : goal.loop-binding-preserved
loop-binding-preserved c = found_in-next c.args.bindings.now c.loop-binding.binding-index _ c.args.variable c.loop-binding-test.true c.loop-binding.invariant ∙ other-in _ c.args.variable (sym c.eq.ensures ∙ c.if-eq.false)
