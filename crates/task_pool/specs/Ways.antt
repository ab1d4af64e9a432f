-- A hand's ways into the deques of its pool.
use Rattle.std.specs.Prelude.{◌≡◌, ℕ, zero, suc, List, [], ◌∷◌, ◌++◌}
use Rattle.crossbeam_deque.specs.Handles.{view, stealer_deque, stealer_flavor, IsPassOf}
use Rattle.task_pool.specs.declared.view.View.{View}
use Rattle.task_pool.specs.declared.way.Way.{Way}
use Rattle.task_pool.specs.Places.{DequeId}
use Rattle.task_pool.specs.Views.{of_hand, taken_of}

module _ {P : Type 0} where
  abbrev pub deque_of : Way P → DequeId
  deque_of w = stealer_deque w.stealer

  abbrev pub view_of : Way P → View
  view_of w = view w.pass

  -- what the hand took by this way, in order
  abbrev pub taken_through : Way P → List ℕ
  taken_through w = taken_of (view_of w)

  -- the way of the hand of this number into a deque that is first in, first out
  abbrev pub IsWayOf : ℕ → Way P → Type 0
  IsWayOf number w =
      IsPassOf (stealer_deque w.stealer) w.pass × (stealer_flavor w.stealer ≡ 0) × (view_of w ≡ of_hand number (taken_through w))

-- the lists with the token at the end of the one at that place
abbrev pub appended : ℕ → ℕ → List (List ℕ) → List (List ℕ)
appended place token [] = []
appended zero token (l ∷ rest) = (l ++ token ∷ []) ∷ rest
appended (suc place) token (l ∷ rest) = l ∷ appended place token rest
