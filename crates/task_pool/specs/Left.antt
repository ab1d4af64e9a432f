-- What is left once a pool is finished.
use Rattle.std.specs.Prelude.{◌≡◌, ℕ, ◌+◌, ◌<◌, List, [], ◌∷◌, ◌++◌, ◌==◌, All, length, slice_get, Some, count_by}
use Rattle.task_pool.specs.Departures.{Departure, tokens, taken_by}
use Rattle.task_pool.specs.Places.{Standing}

-- the lists, one after another
abbrev pub flat : List (List ℕ) → List ℕ
flat [] = []
flat (l ∷ rest) = l ++ flat rest

-- how often the token stands in the list
abbrev pub times : ℕ → List ℕ → ℕ
times token = count_by (λ x. x == token)

-- how often the hands pushed the token, and took it
abbrev pub times_pushed : ℕ → List Standing → ℕ
times_pushed token [] = 0
times_pushed token (h ∷ rest) = times token h.pushed + times_pushed token rest

abbrev pub times_taken : ℕ → List Standing → ℕ
times_taken token [] = 0
times_taken token (h ∷ rest) = times token (flat h.taken) + times_taken token rest

-- There is one order in which tokens left the deque of this number: what left and then what is left is what was pushed there,
-- in its order, and what each hand took, in its order, is its part of what left.
abbrev pub LeavesInOrder : List Standing → ℕ → List ℕ → List ℕ → Type 0
LeavesInOrder hands number pushed left =
    (gone : List Departure) × (pushed ≡ tokens gone ++ left) × All (λ d. d.hand < length hands) gone
    × ((k : ℕ) (h : Standing) → slice_get hands k ≡ Some h → slice_get h.taken number ≡ Some (taken_by k gone))

-- the tokens are what is left in each deque, the first hand's first
abbrev pub IsLeft : List Standing → List ℕ → Type 0
IsLeft hands left =
    (lefts : List (List ℕ)) × (left ≡ flat lefts) × (length lefts ≡ length hands)
    × ((number : ℕ) (h : Standing) (l : List ℕ) → slice_get hands number ≡ Some h → slice_get lefts number ≡ Some l
    → LeavesInOrder hands number h.pushed l)
