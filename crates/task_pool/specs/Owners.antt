-- The deques of a pool before the hands have them, and while the pool is finished.
use Rattle.std.specs.Prelude.{◌≡◌, ℕ, ◌+◌, ◌<◌, ◌≤◌, List, [], ◌∷◌, ◌++◌, All, map, replicate, length}
use Rattle.std.specs.Global.{Global}
use Rattle.std.specs.Vec.Iter.{into_iter_items}
use Rattle.std.specs.declared.vec.IntoIter.{IntoIter}
use Rattle.crossbeam_deque.specs.declared.handles.Worker.{Worker}
use Rattle.crossbeam_deque.specs.Handles.{worker_view, worker_capacity, worker_index, worker_flavor, worker_port}
use Rattle.task_pool.specs.declared.view.Account.{Account}
use Rattle.task_pool.specs.declared.view.View.{View}
use Rattle.task_pool.specs.declared.way.Way.{Way}
use Rattle.task_pool.specs.Kept.{count_of}
use Rattle.task_pool.specs.Places.{DequeId, first_room}
use Rattle.task_pool.specs.Views.{of_owner, account, known}
use Rattle.task_pool.specs.Ways.{deque_of, taken_through, IsWayOf}

module _ {P : Type 0} where
  -- a deque that is first in, first out, whose owner knows this
  pub record IsOwned (v : View) (d : Worker ℕ Global View P) : Type 0 where
    pub fifo : worker_flavor d ≡ 0
    pub port : worker_port d ≡ 0
    pub view : worker_view d ≡ v

  -- nothing was pushed yet, and so many passes were made
  pub record IsFresh (passes : ℕ) (d : Worker ℕ Global View P) : Type 0 where
    pub owned : IsOwned (of_owner 0 [] passes) d
    pub index : worker_index d ≡ 0
    pub capacity : first_room ≤ worker_capacity d

  -- the ways of the hand of this number into these deques, by which nothing was taken yet
  pub record AreFreshWays (number : ℕ) (deques : List DequeId) (ways : List (Way P)) : Type 0 where
    pub into : map deque_of ways ≡ deques
    pub of_hand : All (IsWayOf number) ways
    pub empty : map taken_through ways ≡ replicate (length deques) []

  -- the next way of this row is that of the hand of this number into this deque
  abbrev pub IsNextWay : ℕ → DequeId → List (Way P) → Type 0
  IsNextWay number deque row = (w : Way P) × (rest : List (Way P)) × (row ≡ w ∷ rest) × IsWayOf number w × (deque_of w ≡ deque)

  -- the ways that are still to come in each row
  abbrev pub ways_of : List (IntoIter (Way P) Global) → List (List (Way P))
  ways_of rows = map into_iter_items rows

  abbrev pub next_taken : List (Way P) → List ℕ
  next_taken [] = []
  next_taken (w ∷ rest) = taken_through w

  abbrev pub others : List (Way P) → List (Way P)
  others [] = []
  others (w ∷ rest) = rest

-- one account for each list, of the hands from this number on
abbrev pub accounts_from : ℕ → List (List ℕ) → List Account
accounts_from number [] = []
accounts_from number (taken ∷ rest) = account number taken ∷ accounts_from (number + 1) rest

-- the owner has an account of each hand
abbrev pub HasAll : View → Type 0
HasAll v = (number : ℕ) → number < v.passes → count_of number v.accounts ≡ 1

-- the owner after it took back the passes by which the hands took these
abbrev pub gathered : View → List (List ℕ) → View
gathered v lists = known v.calls v.pushed v.passes (v.accounts ++ accounts_from 0 lists)
