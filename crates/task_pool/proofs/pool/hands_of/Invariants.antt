use Rattle.std.proofs.Common.{◌≡◌, ◌++◌, All, List, length, map, Vec}
use Rattle.std.specs.Global.{Global}
use Rattle.std.specs.Vec.Iter.{into_iter_items}
use Rattle.crossbeam_deque.specs.Handles.{worker_deque}
use Rattle.task_pool.specs.declared.rule.InOrder.{InOrder}
use Rattle.task_pool.specs.declared.way.Way.{Way}
use Rattle.task_pool.specs.Places.{Standing, IsNew, places_from}
use Rattle.task_pool.proofs.pool.hands_of.Given as goal

abbrev pub invariant-loop-deque : goal.invariant-loop-deque
invariant-loop-deque l = record {
  deques : l.yielded ++ into_iter_items l.deque-iterator ≡ l.fn.deques.items;
  rows : (front : List (Vec (Way InOrder) Global)) × (front ++ into_iter_items l.rows ≡ l.fn.rows.items) × (length front ≡ length l.yielded);
  count : length l.hands.items ≡ length l.yielded;
  places : map (λ (h : Standing). h.place) l.hands.items ≡ places_from (map worker_deque l.fn.deques.items) 0 (length l.yielded);
  fresh : All (IsNew (length l.fn.deques.items)) l.hands.items;
}
