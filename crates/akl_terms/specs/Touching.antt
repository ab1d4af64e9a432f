-- What the equations of inner boxes tell the variables from outside.
use Rattle.std.specs.Prelude.{◌≡◌, List, [], ◌∷◌, ◌⊎◌}
use Rattle.akl_terms.specs.declared.name.Name.{Name}
use Rattle.akl_terms.specs.declared.name.Var.{Var}
use Rattle.akl_terms.specs.Tree.{variable}
use Rattle.akl_terms.specs.Equal.{Equations, Equal, IsStructured}

-- a variable of one of these frames
abbrev pub IsLocal : List Name → Var → Type 0
IsLocal [] x = ⊥
IsLocal (f ∷ fs) x = (x.frame ≡ f) ⊎ IsLocal fs x

-- a variable of none of these frames
abbrev pub IsOutside : List Name → Var → Type 0
IsOutside inner x = IsLocal inner x → ⊥

-- a variable from outside of the inner frames that the environment leaves unstructured
pub record IsUnbound (inner : List Name) (environment : Equations) (x : Var) : Type 0 where
  pub outside : IsOutside inner x
  pub unstructured : IsStructured environment x → ⊥

-- the whole of the equations makes x equal to another such variable, to which the environment doesn't make it equal
pub record IsTied (inner : List Name) (environment whole : Equations) (x y : Var) : Type 0 where
  pub other : IsUnbound inner environment y
  pub equal : Equal whole (variable x) (variable y)
  pub apart : Equal environment (variable x) (variable y) → ⊥

-- the whole of the equations, of an environment and of boxes in it, touches a variable from outside: it makes it structured, or equal to another one
pub record Touches (inner : List Name) (environment whole : Equations) (x : Var) : Type 0 where
  pub unbound : IsUnbound inner environment x
  pub told : IsStructured whole x ⊎ ((y : Var) × IsTied inner environment whole x y)
