use Rattle.local_store.proofs.Known.{all-next}
use Rattle.local_store.proofs.store.Store.add_all.Goals as goal

pub loop-binding-preserved : goal.loop-binding-preserved
loop-binding-preserved c = all-next c.args.self.now c.loop-binding.self c.add_binding.new.self c.args.bindings.now c.loop-binding.binding-index c.loop-binding-test.true c.loop-binding.invariant c.in_ok-add_binding.ensures.added
