use Rattle.std.proofs.Common.{◌++◌, sym, ap, ◌∙◌, take}
use Rattle.local_store.specs.Kept.{bindings_of, of_frame}
use Rattle.local_store.proofs.Steps.{bindings_of-next}
use Rattle.local_store.proofs.settled.Settled.bindings.Goals as goal

pub loop-entry-preserved : goal.loop-entry-preserved
loop-entry-preserved c =
    c.in_ok-push_bindings.ensures ∙ ap (λ l. l ++ of_frame c.entry-item.result.0 c.deref.result.now) c.loop-entry.invariant
    ∙ ap (λ bs. bindings_of (take c.loop-entry.entry-index c.deref-entry-items.result.now) ++ of_frame c.entry-item.result.0 bs) (c.deref.ensures.value ∙ ap (λ f. f.bindings.items) c.get.ensures)
    ∙ ap (λ e. bindings_of (take c.loop-entry.entry-index c.deref-entry-items.result.now) ++ of_frame e.0 e.1.bindings.items) c.entry-item.is
    ∙ sym (bindings_of-next c.deref-entry-items.result.now c.loop-entry.entry-index _ c.loop-entry-test.true)
