-- Kept waits that need not list whole classes of variables.
use Rattle.std.specs.Prelude.{◌≡◌, List, Some}
use Rattle.akl_terms.specs.declared.name.Var.{Var}
use Rattle.akl_terms.specs.declared.name.Place.{Place}
use Rattle.akl_terms.specs.Equal.{IsConsistent, IsStructured}
use Rattle.akl_model.specs.Config.{IsIn, Config, Found, whole, box_at}
use Rattle.akl_model.specs.Wakes.{IsAt, IsThere, IsOneOf, Wait, IsKept}
use Rattle.constraint_laws.specs.Oldest.{IsOldest, HasOldest}
use Rattle.plan_laws.specs.Sleeps.{IsOutermostAt}

-- a variable is in scope at a place: its frame is one of a box that is the place or stands around it
pub record IsScopedAt (c : Config) (place : Place) (x : Var) : Type 0 where
  pub home : Found
  pub is_found : box_at home.content.name c.roots ≡ Some home
  pub is_at : IsAt home.content.name c.roots place
  pub frame : IsIn x.frame home.content.frames

-- with each of its variables a list has the oldest one that is equal to it by the equations of the outermost box around a place
pub record HasOldestAt (c : Config) (place : Place) (list : List Var) : Type 0 where
  pub each : (f : Found) → IsOutermostAt c place f → HasOldest (whole f) list

-- kept waits of places that are there, and not open, on variables in scope; while the outermost box around a place is consistent, the place has with
-- each such wait on a variable that isn't structured there one on the oldest variable that is equal to it by this box's equations
pub record AreWaits (c : Config) (now : List Place) (waits : List Wait) : Type 0 where
  pub there : (place : Place) (x : Var) → IsKept waits place x → IsThere place c.roots
  pub closed : (place : Place) (x : Var) → IsKept waits place x → IsOneOf place now → ⊥
  pub scoped : (place : Place) (x : Var) → IsKept waits place x → IsScopedAt c place x
  pub oldest : (place : Place) (x : Var) → IsKept waits place x → (f : Found) → IsOutermostAt c place f → IsConsistent (whole f) → (IsStructured (whole f) x → ⊥)
      → (w : Var) → IsOldest (whole f) x w → IsKept waits place w
