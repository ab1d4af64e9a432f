-- What contracts see of a hand, and which hands make a pool.
use Rattle.std.specs.Prelude.{◌≡◌, ℕ, zero, suc, ◌+◌, List, [], ◌∷◌, map, length, replicate}
use Rattle.std.specs.Global.{Global}

-- which deque it is: `crossbeam_deque` names one by two numbers and its allocator
abbrev pub DequeId : Type 0
DequeId = (ℕ × ℕ) × Global

-- the deques of a pool, and the number of the hand whose own is the one at that number
pub record Place : Type 0 where
  pub pool : List DequeId
  pub number : ℕ

-- the capacity with which the deque of each hand is made
abbrev pub first_room : ℕ
first_room = 64

-- `room` is the capacity with which the hand's deque was made, `calls` counts the calls of `take` that the hand began, and `taken` has a list for each deque of the pool: what the hand took from it, in order
pub record Standing : Type 0 where
  pub place : Place
  pub room : ℕ
  pub calls : ℕ
  pub pushed : List ℕ
  pub taken : List (List ℕ)

-- a hand of a new pool with so many deques: it has done nothing, and its room is the capacity of a new deque
abbrev pub IsNew : ℕ → Standing → Type 0
IsNew count h = (h.room ≡ first_room) × (h.calls ≡ 0) × (h.pushed ≡ []) × (h.taken ≡ replicate count [])

-- the places from this number on
abbrev pub places_from : List DequeId → ℕ → ℕ → List Place
places_from pool number zero = []
places_from pool number (suc n) = record { pool = pool; number = number } ∷ places_from pool (number + 1) n

-- these are all hands of one pool, in their order
abbrev pub IsPool : List Standing → Type 0
IsPool hands = (pool : List DequeId) × (map (λ h. h.place) hands ≡ places_from pool 0 (length pool))
