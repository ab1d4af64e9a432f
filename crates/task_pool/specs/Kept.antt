-- The rule of a deque: first in, first out.
use Rattle.std.specs.Prelude.{◌≡◌, ℕ, ◌+◌, ◌<◌, ◌≤◌, List, [], ◌∷◌, ◌++◌, All, ◌==◌, if◌then◌else◌}
use mathlib.Core.Option.{some}
use lib.ListN.{get_elem?}
use Rattle.task_pool.specs.declared.view.Account.{Account}
use Rattle.task_pool.specs.declared.view.View.{View}
use Rattle.task_pool.specs.Departures.{Departure, tokens, taken_by}
use Rattle.task_pool.specs.Views.{after_take}

-- the account has just what its hand took
abbrev pub IsTrueOf : List Departure → Account → Type 0
IsTrueOf gone a = a.taken ≡ taken_by a.hand gone

-- how many of the accounts are of the hand
abbrev pub count_of : ℕ → List Account → ℕ
count_of number [] = 0
count_of number (a ∷ rest) = (if a.hand == number then 1 else 0) + count_of number rest

-- how many accounts of the hand all passes have
abbrev pub total_of : ℕ → List View → ℕ
total_of number [] = 0
total_of number (v ∷ rest) = count_of number v.accounts + total_of number rest

-- There is one order in which tokens left. What left and then what the deque holds is what the owner, whose port is 0, pushed.
-- Each hand that the owner made a pass for has one account at most, and each account is true.
pub record Kept (items : List ℕ) (views : List View) : Type 0 where
  pub gone : List Departure
  pub made : ℕ
  pub owner : (v : View) → get_elem? views 0 ≡ some v → (v.pushed ≡ tokens gone ++ items) × (v.passes ≡ made)
  pub accounts : (port : ℕ) (v : View) → get_elem? views port ≡ some v → All (IsTrueOf gone) v.accounts
  pub once : (number : ℕ) → total_of number views ≤ 1
  pub unused : (number : ℕ) → made ≤ number → total_of number views ≡ 0
  pub by_hands : All (λ d. d.hand < made) gone

-- the tokens are what is left of those that the owner pushed, and its accounts say who took the others
abbrev pub Leaves : View → List ℕ → Type 0
Leaves v left =
    (gone : List Departure) × (v.pushed ≡ tokens gone ++ left) × All (IsTrueOf gone) v.accounts × All (λ d. d.hand < v.passes) gone

-- the owner took the tokens, which were the first of what was left
abbrev pub Drained : View → List ℕ → View → Type 0
Drained v tokens w = (w ≡ after_take v tokens) × ((left : List ℕ) × Leaves v (tokens ++ left))
