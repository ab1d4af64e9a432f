use Rattle.std.proofs.Common.{◌≡◌, All, vec_len}
use Rattle.crossbeam_deque.specs.Handles.{worker_capacity}
use Rattle.task_pool.specs.Owners.{IsFresh}
use Rattle.task_pool.specs.Places.{first_room}
use Rattle.task_pool.proofs.pool.deques.Given as goal

abbrev pub invariant-loop : goal.invariant-loop
invariant-loop l = record {
  count : vec_len l.deques ≡ l.counter;
  fresh : All (IsFresh 0) l.deques.items;
  room : All (λ d. worker_capacity d ≡ first_room) l.deques.items;
}
