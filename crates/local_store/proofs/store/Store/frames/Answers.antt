use Rattle.local_store.proofs.Steps.{all_named-next}
use Rattle.local_store.proofs.store.Store.frames.Goals as goal

pub loop-frame-preserved : goal.loop-frame-preserved
loop-frame-preserved c = all_named-next c.in_ok-list.list.items c.loop-frame.list.items c.put_frame.new.frames.items c.as_slice-frame-items.result.now c.loop-frame.frame-index _ c.loop-frame-test.true c.loop-frame.invariant c.in_ok-put_frame.ensures
