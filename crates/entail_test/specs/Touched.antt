-- The variables from outside that equations tell something.
use Rattle.std.specs.Prelude.{List, [], ◌∷◌}
use Rattle.akl_terms.specs.declared.name.Name.{Name}
use Rattle.akl_terms.specs.declared.name.Var.{Var}
use Rattle.akl_terms.specs.Tree.{variable}
use Rattle.akl_terms.specs.Equal.{Equations, Equal}
use Rattle.akl_terms.specs.Touching.{Touches}
use Rattle.constraint_laws.specs.Touched.{IsAmong}

-- no two of them are equal
abbrev pub AreApart : Equations → List Var → Type 0
AreApart E [] = Unit {0}
AreApart E (x ∷ xs) = ((y : Var) → IsAmong y xs → Equal E (variable x) (variable y) → ⊥) × AreApart E xs

-- one variable of each class of the environment that the whole touches, and nothing else
pub record AreTouched (inner : List Name) (environment whole : Equations) (on : List Var) : Type 0 where
  pub each : (x : Var) → IsAmong x on → Touches inner environment whole x
  pub every : (x : Var) → Touches inner environment whole x → (y : Var) × IsAmong y on × Equal environment (variable x) (variable y)
  pub once : AreApart environment on
