-- How many boxes open places stand in.
use Rattle.std.specs.Prelude.{ℕ, suc, ◌+◌, [], ◌∷◌, length}
use Rattle.wake_lists.specs.Open.{Openings}

-- one for each open place and for each box around it: a place that is closed for a box further out makes it less
abbrev pub weight : Openings → ℕ
weight [] = 0
weight (e ∷ es) = suc (length e.1.boxes) + weight es
