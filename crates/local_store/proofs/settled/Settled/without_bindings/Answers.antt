use Rattle.std.proofs.Common.{[], ap, ◌∙◌}
use Rattle.std.proofs.lemmas.List.{take_all}
use Rattle.local_store.specs.Stored.{all_named}
use Rattle.local_store.proofs.Steps.{all_named-next}
use Rattle.local_store.proofs.SettledFrames.{named-in_order}
use Rattle.local_store.proofs.settled.Settled.without_bindings.Goals as goal

pub loop-frame-preserved : goal.loop-frame-preserved
loop-frame-preserved c = (
  all_named-next [] _ _ c.deref-frame-items.result.now c.loop-frame.frame-index _ c.loop-frame-test.true c.loop-frame.invariant.0 c.in_ok-put.ensures.frames,
  c.in_ok-put.ensures.bindings ∙ c.loop-frame.invariant.1,
)

pub returns-clause-frames : goal.returns-clause-frames
returns-clause-frames c =
    c.loop-frame.invariant.0 ∙ ap (all_named []) (take_all c.loop-frame.frame-index c.deref-frame-items.result.now c.loop-frame-test.false ∙ c.deref-frame-items.ensures.value ∙ c.in_ok-frames.ensures.all)
    ∙ named-in_order _ c.in_ok-frames.ensures.ordered
