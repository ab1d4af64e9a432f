-- What holds of the fields of every hand, and what contracts see of them.
use Rattle.std.specs.Prelude.{◌≡◌, ◌<◌, ◌≤◌, map, length, vec_len, slice_get, Some, All}
use Rattle.crossbeam_deque.specs.Handles.{worker_view, worker_capacity, worker_index, worker_flavor, worker_deque, worker_port}
use Rattle.task_pool.specs.declared.hand.Hand.TheInside.{Inside}
use Rattle.task_pool.specs.Places.{Standing}
use Rattle.task_pool.specs.Views.{of_owner}
use Rattle.task_pool.specs.Ways.{deque_of, taken_through, IsWayOf}

module _ {P : Type 0} where
  abbrev pub standing_of : Inside P → Standing
  standing_of h = record {
    place = record { pool = map deque_of h.ways.items; number = h.number };
    room = h.room;
    calls = (worker_view h.deque).calls;
    pushed = (worker_view h.deque).pushed;
    taken = map taken_through h.ways.items;
  }

  -- The deque is the pool's at the hand's number, and only its owner has pushed. Each way is the hand's.
  pub record IsHand (h : Inside P) : Type 0 where
    pub own : slice_get (map deque_of h.ways.items) h.number ≡ Some (worker_deque h.deque)
    pub fifo : worker_flavor h.deque ≡ 0
    pub port : worker_port h.deque ≡ 0
    pub owner : worker_view h.deque ≡ of_owner (worker_view h.deque).calls (worker_view h.deque).pushed (vec_len h.ways)
    pub ways : All (IsWayOf h.number) h.ways.items
    pub pushes : h.pushes ≡ length (worker_view h.deque).pushed
    pub index : worker_index h.deque ≤ h.pushes
    pub room : h.room ≤ worker_capacity h.deque
    pub some_room : 0 < h.room
