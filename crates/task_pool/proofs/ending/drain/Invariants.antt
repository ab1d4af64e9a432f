use Rattle.std.proofs.Common.{◌≡◌, ℕ, ◌-◌, ◌<◌, List, ◌++◌, length}
use Rattle.crossbeam_deque.specs.Handles.{worker_view, worker_flavor, worker_port}
use Rattle.task_pool.specs.Kept.{Leaves}
use Rattle.task_pool.specs.Owners.{HasAll}
use Rattle.task_pool.proofs.Drains.{size_of}
use Rattle.task_pool.proofs.ending.drain.Given as goal

abbrev pub invariant-loop-token : goal.invariant-loop-token
invariant-loop-token l = record {
  fifo : worker_flavor l.deque ≡ 0;
  port : worker_port l.deque ≡ 0;
  all : HasAll (worker_view l.deque);
  passes : 0 < (worker_view l.deque).passes;
  taken : (taken : List ℕ) × (l.left.items ≡ l.initial.left.items ++ taken) × ((items : List ℕ) → Leaves (worker_view l.deque) items → Leaves (worker_view l.initial.deque) (taken ++ items));
}

abbrev pub decreases-loop-token : goal.decreases-loop-token
decreases-loop-token l = length (worker_view l.deque).pushed - size_of (worker_view l.deque).accounts
