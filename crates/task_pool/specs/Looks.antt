-- What a call of `take` has seen.
use Rattle.std.specs.Prelude.{◌≡◌, ◌≢◌, ℕ, ◌+◌, ◌<◌, List, [], length, slice_get, Some}
use Rattle.task_pool.specs.declared.view.View.{View}
use Rattle.task_pool.specs.Places.{Standing}
use Rattle.task_pool.specs.Steps.{OwnerSaw, SeenEmpty}
use Rattle.task_pool.specs.Views.{of_owner, of_hand}
use Rattle.task_pool.specs.Ways.{appended}

module _ (holds : List ℕ → List View → Type 0) where
  -- The hand's own deque was empty at a moment at which its owner had begun the calls that the hand has begun, and no more,
  -- and had pushed what the hand has.
  abbrev pub OwnSeenEmpty : Standing → Type 0
  OwnSeenEmpty h = OwnerSaw holds (of_owner h.calls h.pushed (length h.taken)) []

  -- each other deque was empty at a moment at which the hand had taken from it what it has
  abbrev pub OthersSeenEmpty : Standing → Type 0
  OthersSeenEmpty h = (k : ℕ) (taken : List ℕ) → k ≢ h.place.number → slice_get h.taken k ≡ Some taken → SeenEmpty holds (of_hand h.place.number taken)

  -- The hand took the token from the deque of the number k: from another's only where its own was seen empty in this call.
  pub record HasTaken (k token : ℕ) (old now : Standing) : Type 0 where
    pub within : k < length old.taken
    pub now_is : now ≡ record old { calls = old.calls + 1; taken = appended k token old.taken }
    pub own_first : k ≢ old.place.number → OwnSeenEmpty now

  -- the hand took no token, since it saw each deque empty
  pub record HasFoundNone (old now : Standing) : Type 0 where
    pub now_is : now ≡ record old { calls = old.calls + 1 }
    pub own : OwnSeenEmpty now
    pub others : OthersSeenEmpty now
