use Rattle.std.proofs.Common.{◌≡◌, ℕ, ◌++◌, List, length, map, drop, slice_get, Some}
use Rattle.std.specs.Vec.Iter.{into_iter_items}
use Rattle.task_pool.specs.Left.{flat, LeavesInOrder}
use Rattle.task_pool.specs.Owners.{ways_of}
use Rattle.task_pool.specs.Places.{Standing}
use Rattle.task_pool.proofs.Ends.{Aparts}
use Rattle.task_pool.proofs.ending.finish.Given as goal

abbrev pub invariant-loop-hand : goal.invariant-loop-hand
invariant-loop-hand l = record {
  hands : l.yielded ++ into_iter_items l.hand-iterator ≡ l.fn.hands.items;
  parts : Aparts l.yielded l.deques.items (ways_of l.rows.items);
}

abbrev pub invariant-loop-deque : goal.invariant-loop-deque
invariant-loop-deque l = record {
  parts : Aparts l.fn.hands.items (into_iter_items l.initial.deque-iterator) (ways_of l.initial.rows.items);
  deques : l.yielded ++ into_iter_items l.deque-iterator ≡ into_iter_items l.initial.deque-iterator;
  rows : ways_of l.rows.items ≡ map (drop (length l.yielded)) (ways_of l.initial.rows.items);
  left : (lefts : List (List ℕ)) × (l.left.items ≡ flat lefts) × (length lefts ≡ length l.yielded)
      × ((number : ℕ) (left : List ℕ) → slice_get lefts number ≡ Some left → (h : Standing) → slice_get l.fn.hands.items number ≡ Some h → LeavesInOrder l.fn.hands.items number h.pushed left);
}
