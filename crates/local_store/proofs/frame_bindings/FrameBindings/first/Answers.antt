use Rattle.std.proofs.Common.{ap, ◌∙◌}
use Rattle.local_store.specs.Kept.{found_at}
use Rattle.local_store.proofs.Steps.{found_at-next, found_at-here, one-at, other-at}
use Rattle.local_store.proofs.frame_bindings.FrameBindings.first.Goals as goal

pub returns-then-binding-index : goal.returns-then-binding-index
returns-then-binding-index c =
    found_at-here c.deref-binding-items.result.now c.loop-binding.binding-index _ c.args.index _ c.loop-binding-test.true c.loop-binding.invariant (one-at _ c.args.index c.if-binding-index.true)
    ∙ ap (λ l. found_at l c.args.index) c.deref-binding-items.ensures.value

pub loop-binding-preserved : goal.loop-binding-preserved
loop-binding-preserved c =
    found_at-next c.deref-binding-items.result.now c.loop-binding.binding-index _ c.args.index c.loop-binding-test.true c.loop-binding.invariant ∙ other-at _ c.args.index c.if-binding-index.false
