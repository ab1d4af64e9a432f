-- The oldest of the variables that are equal to one.
use Rattle.std.specs.Prelude.{◌≡◌, List, ◌⊎◌}
use Rattle.std.specs.declared.cmp.Ordering.TheVariants.{Less}
use Rattle.akl_terms.specs.declared.name.Var.{Var}
use Rattle.akl_terms.specs.Names.{var_cmp}
use Rattle.akl_terms.specs.Tree.{variable}
use Rattle.akl_terms.specs.Equal.{Equations, Equal}
use Rattle.constraint_laws.specs.Touched.{IsAmong}

-- of the variables that are equal to x by the equations, w comes before all others
pub record IsOldest (E : Equations) (x w : Var) : Type 0 where
  pub equal : Equal E (variable x) (variable w)
  pub oldest : (y : Var) → Equal E (variable x) (variable y) → (w ≡ y) ⊎ (var_cmp w y ≡ Less)

-- there is one, since only a variable that stands in the equations is equal to another
abbrev pub OldestLaw : Type 0
OldestLaw = (E : Equations) (x : Var) → (w : Var) × IsOldest E x w

-- and no other
abbrev pub OneOldestLaw : Type 0
OneOldestLaw = (E : Equations) (x w v : Var) → IsOldest E x w → IsOldest E x v → w ≡ v

-- equal variables have the same
abbrev pub EqualOldestLaw : Type 0
EqualOldestLaw = (E : Equations) (x y w : Var) → Equal E (variable x) (variable y) → IsOldest E x w → IsOldest E y w

-- with each of its variables a list has the oldest one that is equal to it
abbrev pub HasOldest : Equations → List Var → Type 0
HasOldest E list = (x w : Var) → IsAmong x list → IsOldest E x w → IsAmong w list
