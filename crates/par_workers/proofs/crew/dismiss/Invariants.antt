use Rattle.std.proofs.Common.{◌≡◌, ◌++◌, length}
use Rattle.std.specs.Vec.Iter.{into_iter_items}
use Rattle.turn_lock.specs.Passes.{view, HasNoTurn, IsPassOf}
use Rattle.par_workers.specs.Crews.{AreOfJoined, lists}
use Rattle.par_workers.proofs.crew.dismiss.Given as goal

abbrev pub invariant-loop-worker : goal.invariant-loop-worker
invariant-loop-worker l = record {
  workers : l.yielded ++ into_iter_items l.worker-iterator ≡ l.fn.workers.items;
  lock : IsPassOf l.lock l.first;
  first : ((view l.first).number ≡ 0) × HasNoTurn l.first × ((view l.first).split_count ≡ (view l.fn.first).split_count);
  count : (length (view l.first).joined ≡ length l.yielded) × (length l.receipts.items ≡ length l.yielded);
  receipts : AreOfJoined 1 (view l.first).joined (lists l.receipts.items);
}
