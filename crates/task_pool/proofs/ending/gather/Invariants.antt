use Rattle.std.proofs.Common.{◌≡◌, take, map}
use Rattle.crossbeam_deque.specs.Handles.{worker_view, SameWorker}
use Rattle.task_pool.specs.Owners.{ways_of, next_taken, others, gathered}
use Rattle.task_pool.proofs.Rows.{changed}
use Rattle.task_pool.proofs.ending.gather.Given as goal

abbrev pub invariant-loop-k : goal.invariant-loop-k
invariant-loop-k l = record {
  same : SameWorker l.initial.deque l.deque;
  view : worker_view l.deque ≡ gathered (worker_view l.initial.deque) (take l.k (map next_taken (ways_of l.initial.rows)));
  rows : ways_of l.rows ≡ changed others l.k (ways_of l.initial.rows);
}
