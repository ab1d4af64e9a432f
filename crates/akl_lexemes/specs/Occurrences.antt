-- How variables are numbered.
use Rattle.std.specs.Prelude.{◌≡◌, ℕ, ◌<◌, ◌⊎◌, List, [], ◌∷◌, length}

abbrev pub Occurs : ℕ → List ℕ → Type 0
Occurs n [] = ⊥
Occurs n (m ∷ ms) = (n ≡ m) ⊎ Occurs n ms

-- the numbers of the variables that occur are exactly those that have a name
pub record AreNumbered (variables : List ℕ) (names : List (List ℕ)) : Type 0 where
  pub named : (n : ℕ) → Occurs n variables → n < length names
  pub occurs : (n : ℕ) → n < length names → Occurs n variables
