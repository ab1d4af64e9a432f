use Rattle.std.proofs.Common.{◌≡◌, ℕ, ◌+◌, [], All, length, map, take, replicate}
use Rattle.std.specs.List.{AllWithin}
use Rattle.crossbeam_deque.specs.Handles.{worker_deque}
use Rattle.task_pool.specs.Owners.{IsFresh}
use Rattle.task_pool.specs.Ways.{IsWayOf, deque_of, taken_through}
use Rattle.task_pool.proofs.pool.ways_into.Given as goal

abbrev pub invariant-loop-k : goal.invariant-loop-k
invariant-loop-k l = record {
  count : length l.deques.items ≡ l.k-end;
  same : map worker_deque l.deques.items ≡ map worker_deque l.initial.deques.items;
  into : map deque_of l.ways.items ≡ take l.k (map worker_deque l.initial.deques.items);
  empty : map taken_through l.ways.items ≡ replicate l.k [];
  more : (n : ℕ) → All (IsFresh n) l.initial.deques.items → AllWithin (IsFresh (n + 1)) l.deques.items 0 l.k;
  rest : (n : ℕ) → All (IsFresh n) l.initial.deques.items → AllWithin (IsFresh n) l.deques.items l.k l.k-end;
  of_hand : (n : ℕ) → All (IsFresh n) l.initial.deques.items → All (IsWayOf n) l.ways.items;
}
