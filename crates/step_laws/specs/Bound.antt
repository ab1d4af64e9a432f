-- Variables that a label binds, listed: enough of them.
use Rattle.std.specs.Prelude.{List, [], ◌∷◌, ◌++◌}
use Rattle.akl_terms.specs.declared.name.Var.{Var}
use Rattle.akl_terms.specs.Tree.{variable}
use Rattle.akl_terms.specs.Equal.{Equations, Equal}
use Rattle.akl_model.specs.Config.{Content, Config, Found}
use Rattle.akl_model.specs.Changes.{Binds}
use Rattle.constraint_laws.specs.Touched.{IsAmong}
use Rattle.constraint_laws.specs.Oldest.{HasOldest}

-- the equations of the outermost of the boxes down to one
abbrev pub first_equations : List Content → Equations
first_equations [] = []
first_equations (b ∷ bs) = b.equations

abbrev pub outermost_equations : Found → Equations
outermost_equations f = first_equations (f.around ++ f.content ∷ [])

-- variables that a label which leads from c to d binds or makes equal in this box, enough of them: each such variable is equal to one of them by the equations of the
-- outermost box around, and of what is equal by these the list has the oldest
pub record AreBoundIn (c d : Config) (f : Found) (list : List Var) : Type 0 where
  pub each : (y : Var) → IsAmong y list → Binds c d f.content.name y
  pub every : (x : Var) → Binds c d f.content.name x → (y : Var) × IsAmong y list × Equal (outermost_equations f) (variable x) (variable y)
  pub oldest : HasOldest (outermost_equations f) list
