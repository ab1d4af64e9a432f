-- Variables that are closed under equations, and equations that grow without binding them.
use Rattle.std.specs.Prelude.{◌≡◌, Some}
use Rattle.akl_terms.specs.declared.name.Var.{Var}
use Rattle.akl_terms.specs.Tree.{Tree, variable, Head, head_of}
use Rattle.akl_terms.specs.Equal.{Equations, Equal, Follows, IsConsistent, IsStructured}
use Rattle.constraint_laws.specs.Growth.{IsOver}
use Rattle.constraint_laws.specs.Bound.{IsNewlyBound}

-- a variable is equal to a term over these variables that isn't a variable, or it is unstructured
pub data IsClosed (R : Var → Type 0) (E : Equations) (x : Var) : Type 0 where
  by_term : {t : Tree} {h : Head} → Equal E (variable x) t → head_of t ≡ Some h → IsOver R t → IsClosed R E x
  by_itself : (IsStructured E x → ⊥) → IsClosed R E x

-- variables that are closed under equations
pub record AreClosed (R : Var → Type 0) (E : Equations) : Type 0 where
  pub each : (x : Var) → R x → IsClosed R E x

-- the equations grow from E to G, stay consistent, and bind none of these variables
pub record Spares (R : Var → Type 0) (E G : Equations) : Type 0 where
  pub grows : Follows E G
  pub consistent : IsConsistent G
  pub unbound : (x : Var) → R x → IsNewlyBound E G x → ⊥
