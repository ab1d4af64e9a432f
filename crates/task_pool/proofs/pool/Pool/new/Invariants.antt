use Rattle.std.proofs.Common.{◌≡◌, ℕ, All, length, map, slice_get, Some, Vec}
use Rattle.std.specs.Global.{Global}
use Rattle.crossbeam_deque.specs.Handles.{worker_deque}
use Rattle.task_pool.specs.declared.rule.InOrder.{InOrder}
use Rattle.task_pool.specs.declared.way.Way.{Way}
use Rattle.task_pool.specs.Owners.{IsFresh, AreFreshWays}
use Rattle.task_pool.proofs.pool.Pool.new.Given as goal

abbrev pub invariant-loop : goal.invariant-loop
invariant-loop l = record {
  count : length l.deques.items ≡ l.fn.workers;
  rows_count : length l.rows.items ≡ l.counter;
  fresh : All (IsFresh l.counter) l.deques.items;
  rows : (k : ℕ) (row : Vec (Way InOrder) Global) → slice_get l.rows.items k ≡ Some row → AreFreshWays k (map worker_deque l.deques.items) row.items;
}
