use Rattle.local_store.proofs.Steps.{joins-next}
use Rattle.local_store.proofs.store.Store.bindings.Goals as goal

pub loop-binding-preserved : goal.loop-binding-preserved
loop-binding-preserved c = joins-next c.in_ok-list.list.items c.loop-binding.list.items c.put_binding.new.bindings.items c.deref-binding-items.result.now c.loop-binding.binding-index _ c.loop-binding-test.true c.loop-binding.invariant c.in_ok-put_binding.ensures
