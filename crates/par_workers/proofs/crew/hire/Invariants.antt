use Rattle.std.proofs.Common.{◌≡◌, ◌+◌, ◌++◌, [], All, length}
use Rattle.std.specs.Vec.Iter.{into_iter_items}
use Rattle.turn_lock.specs.Passes.{view, HasNoTurn, IsPassOf}
use Rattle.par_workers.specs.Crews.{AreNumbered}
use Rattle.par_workers.proofs.crew.hire.Given as goal

abbrev pub invariant-loop-hand : goal.invariant-loop-hand
invariant-loop-hand l = record {
  hands : l.yielded ++ into_iter_items l.hand-iterator ≡ l.fn.hands.items;
  lock : IsPassOf l.lock l.first;
  first : ((view l.first).number ≡ 0) × HasNoTurn l.first;
  fixed : (view l.first).fixed ≡ (view l.fn.first).fixed;
  none : ((view l.first).joined ≡ []) × ((view l.first).seen ≡ []);
  count : ((view l.first).split_count ≡ length l.yielded) × (length l.workers.items ≡ length l.yielded) × (l.number ≡ length l.yielded + 1);
  workers : All (λ w. IsPassOf l.lock w.pass) l.workers.items;
  numbers : AreNumbered 1 l.workers.items;
}
