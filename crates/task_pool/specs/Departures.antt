-- The order in which tokens leave a deque: each with the number of the hand that took it.
use Rattle.std.specs.Prelude.{ℕ, List, [], ◌∷◌, ◌==◌, if◌then◌else◌}

pub record Departure : Type 0 where
  pub hand : ℕ
  pub token : ℕ

-- the tokens that left, in order
abbrev pub tokens : List Departure → List ℕ
tokens [] = []
tokens (d ∷ ds) = d.token ∷ tokens ds

-- those of them that the hand took, in order
abbrev pub taken_by : ℕ → List Departure → List ℕ
taken_by number [] = []
taken_by number (d ∷ ds) =
    if d.hand == number then d.token ∷ taken_by number ds else taken_by number ds
