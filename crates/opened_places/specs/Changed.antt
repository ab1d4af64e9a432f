-- Which places a commit opens by what it changes, and the other ways in which it opens one.
use Rattle.std.specs.Prelude.{◌≡◌, ◌≢◌, List, Some, None, ◌⊎◌}
use Rattle.akl_terms.specs.declared.name.Name.{Name}
use Rattle.akl_terms.specs.declared.name.Var.{Var}
use Rattle.akl_terms.specs.declared.name.Place.{Place}
use Rattle.akl_terms.specs.Touching.{IsOutside}
use Rattle.akl_model.specs.Config.{Config, Found, box_at, home_of}
use Rattle.akl_model.specs.Stable.{only, frames_of}
use Rattle.akl_model.specs.Changes.{shape_at, goals_at, constraint_at, Binds}
use Rattle.akl_model.specs.Wakes.{holder_in, Wait, IsKept, StandsIn, Opens}

-- from c to d a place is new, or it is changed in a way that opens it
pub data IsChanged (c d : Config) : Place → Type 0 where
  -- a new goal, and a new box
  new_goal : {g : Name} {f : Found} → home_of g c.roots ≡ None → home_of g d.roots ≡ Some f → IsChanged c d (Place.Goal g)
  new_box : {n : Name} {f : Found} → box_at n c.roots ≡ None → box_at n d.roots ≡ Some f → IsChanged c d (Place.Box n)
  -- a goal that stays and has changed, and the box in which it stands
  changed_goal : {g : Name} {e f : Found} → home_of g c.roots ≡ Some e → home_of g d.roots ≡ Some f → shape_at g c.roots ≢ shape_at g d.roots → IsChanged c d (Place.Goal g)
  box_of_changed_goal : (g : Name) {e f : Found} → home_of g c.roots ≡ Some e → home_of g d.roots ≡ Some f → shape_at g c.roots ≢ shape_at g d.roots
      → IsChanged c d (Place.Box f.content.name)
  -- a box that stays and has another constraint, or another set of goals, and with this the choice that holds it
  changed_constraint : {n : Name} {e f : Found} → box_at n c.roots ≡ Some e → box_at n d.roots ≡ Some f → constraint_at n c.roots ≢ constraint_at n d.roots
      → IsChanged c d (Place.Box n)
  changed_goals : {n : Name} {e f : Found} → box_at n c.roots ≡ Some e → box_at n d.roots ≡ Some f → goals_at n c.roots ≢ goals_at n d.roots → IsChanged c d (Place.Box n)
  holder_of_changed_goals : (n : Name) {g : Name} {e f : Found} → box_at n c.roots ≡ Some e → box_at n d.roots ≡ Some f → goals_at n c.roots ≢ goals_at n d.roots
      → holder_in n d.roots ≡ Some g → IsChanged c d (Place.Goal g)

-- a place waits on a variable that is bound or made equal
pub record IsWoken (waits : List Wait) (c d : Config) (place : Place) : Type 0 where
  pub box : Name
  pub variable : Var
  pub kept : IsKept waits place variable
  pub binds : Binds c d box variable

-- equations of a box around a place bind a variable that is external to that box, or make it equal
pub record IsBoundOutside (c d : Config) (place : Place) : Type 0 where
  pub box : Name
  pub variable : Var
  pub binds : Binds c d box variable
  pub outside : IsOutside (frames_of (only binds.adds.afterwards)) variable
  pub stands : StandsIn box d.roots place

-- a place is opened exactly where it is changed, woken or bound outside
abbrev pub OpensLaw : Type 0
OpensLaw = (waits : List Wait) (c d : Config) (place : Place) → (Opens waits c d place → IsChanged c d place ⊎ (IsWoken waits c d place ⊎ IsBoundOutside c d place))
    × (IsChanged c d place ⊎ (IsWoken waits c d place ⊎ IsBoundOutside c d place) → Opens waits c d place)
