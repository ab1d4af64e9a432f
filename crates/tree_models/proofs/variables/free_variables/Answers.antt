use Rattle.tree_models.proofs.Occurring.{free_more}
use Rattle.tree_models.proofs.variables.free_variables.Goals as goal

pub loop-seen-preserved : goal.loop-seen-preserved
loop-seen-preserved c = free_more c.args.seens.now c.loop-seen.seen-index _ c.loop-seen.list.items c.push_free.new.list.items c.loop-seen-test.true c.loop-seen.invariant c.in_ok-push_free.ensures
