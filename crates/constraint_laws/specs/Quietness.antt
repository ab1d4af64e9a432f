-- Quiet equations, by forms that stand for them and in another order.
use Rattle.std.specs.Prelude.{List, ◌++◌}
use Rattle.akl_terms.specs.declared.name.Name.{Name}
use Rattle.akl_terms.specs.declared.name.Var.{Var}
use Rattle.akl_terms.specs.Tree.{variable}
use Rattle.akl_terms.specs.Equal.{Equations, IsTold, Equal, IsConsistent, IsStructured, IsQuiet, Follows}
use Rattle.akl_terms.specs.Standing.{StandFor}
use Rattle.akl_terms.specs.Touching.{IsLocal}

-- quiet, by the environment and the whole of the equations, which needn't be made of the environment and own ones
pub record IsQuietIn (environment whole : Equations) (Local : Var → Type 0) : Type 0 where
  pub consistent : IsConsistent whole
  pub structured : (x : Var) → (Local x → ⊥) → IsStructured whole x → IsStructured environment x
  pub equal : (x y : Var) → (Local x → ⊥) → (Local y → ⊥) → (IsStructured environment x → ⊥) → (IsStructured environment y → ⊥)
      → Equal whole (variable x) (variable y) → Equal environment (variable x) (variable y)

-- own equations are quiet exactly where a form that stands for the environment, and one that stands for the whole, are
abbrev pub QuietStandsLaw : Type 0
QuietStandsLaw = (E own F whole : Equations) (local : List Name) → StandFor (IsTold E) (IsTold F) → StandFor (IsTold (E ++ own)) (IsTold whole)
    → (IsQuiet E (IsLocal local) own → IsQuietIn F whole (IsLocal local)) × (IsQuietIn F whole (IsLocal local) → IsQuiet E (IsLocal local) own)

-- whether equations are quiet depends on what follows from them alone, and so not on their order
abbrev pub QuietOrderLaw : Type 0
QuietOrderLaw = (E own F other : Equations) (local : List Name) → Follows E F → Follows F E → Follows (E ++ own) (F ++ other) → Follows (F ++ other) (E ++ own)
    → IsQuiet E (IsLocal local) own → IsQuiet F (IsLocal local) other
