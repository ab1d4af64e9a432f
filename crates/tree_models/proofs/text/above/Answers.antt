use Rattle.tree_models.proofs.CellLines.{above_next}
use Rattle.tree_models.proofs.text.above.Goals as goal

pub loop-place-preserved : goal.loop-place-preserved
loop-place-preserved c = above_next c.args.low c.args.places.now c.loop-place.place-index _ _ c.loop-place.end c.max-end.result c.loop-place-test.true c.loop-place.invariant c.in_ok-after.ensures c.max-end.ensures
