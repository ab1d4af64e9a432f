use Rattle.local_store.proofs.Steps.{put_all-next}
use Rattle.local_store.proofs.frame_bindings.put_all.Goals as goal

pub loop-binding-preserved : goal.loop-binding-preserved
loop-binding-preserved c = put_all-next c.args.bindings.now.items c.loop-binding.bindings.items c.put.new.bindings.items c.args.added.now c.loop-binding.binding-index _ c.loop-binding-test.true c.loop-binding.invariant c.in_ok-put.ensures
