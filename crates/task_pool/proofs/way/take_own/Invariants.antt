use Rattle.std.proofs.Common.{◌≡◌, ℕ}
use Rattle.crossbeam_deque.specs.Handles.{worker_view, worker_index, worker_port, SameWorker}
use Rattle.task_pool.specs.Ways.{IsWayOf, deque_of, view_of}
use Rattle.task_pool.proofs.way.take_own.Given as goal

abbrev pub invariant-loop : goal.invariant-loop
invariant-loop g l = record {
  port : worker_port l.deque ≡ 0;
  same : SameWorker l.initial.deque l.deque;
  index : worker_index l.deque ≡ worker_index l.initial.deque;
  owner : worker_view l.deque ≡ worker_view l.initial.deque;
  mine : (number : ℕ) → IsWayOf number l.initial.way → IsWayOf number l.way;
  into : deque_of l.way ≡ deque_of l.initial.way;
  view : view_of l.way ≡ view_of l.initial.way;
}
