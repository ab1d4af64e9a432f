-- How a history goes on, and the longer of two.
use Rattle.std.specs.Prelude.{◌≡◌, ◌≢◌, ℕ, List, ◌++◌, All, length, nat_lt, if◌then◌else◌}

module _ {E : Type 0} (maker : E → ℕ) (number : ℕ) (seen history : List E) where
  -- the history begins with what was seen, and each further entry has this maker
  abbrev pub GoesOnBy : Type 0
  GoesOnBy = (more : List E) × (history ≡ seen ++ more) × All (λ e. maker e ≡ number) more

  -- the history begins with what was seen, and no further entry has this maker
  abbrev pub GoesOnWithout : Type 0
  GoesOnWithout = (more : List E) × (history ≡ seen ++ more) × All (λ e. maker e ≢ number) more

abbrev pub longer : {E : Type 0} → List E → List E → List E
longer xs ys = if nat_lt (length xs) (length ys) then ys else xs
