-- On which variables the goals of a root box wait.
use Rattle.std.specs.Prelude.{◌≡◌, Some}
use Rattle.akl_terms.specs.declared.name.Name.{Name}
use Rattle.akl_terms.specs.declared.name.Var.{Var}
use Rattle.akl_terms.specs.declared.program.Program.{Program}
use Rattle.akl_terms.specs.Tree.{variable}
use Rattle.akl_terms.specs.Equal.{Equal}
use Rattle.akl_model.specs.Config.{IsIn, Atom, Operator, Boxes, an_atom, a_choice, held_in, Found, environment, whole}
use Rattle.akl_model.specs.Rules.{alternative_of}
use Rattle.akl_model.specs.Stable.{only, frames_of, AtomWaitsOn, TouchesFrom}
use Rattle.akl_model.specs.Wakes.{SomeBox}

-- an alternative, or a box inside it, touches a variable from outside of the alternative
abbrev pub TouchesWithin : Program → Found → Var → Type 0
TouchesWithin p m x = SomeBox (λ (d : Found). TouchesFrom p (frames_of (only m)) (environment m) d x) m.around (only m)

-- a goal of a box watches a variable of the box's own frames: an atom what is equal to the variable on which it waits, and a choice of any operator
-- what its alternatives, or boxes inside them, touch. These are whole classes of the box's equations, none of them structured
pub data Watches (p : Program) (f : Found) : Name → Var → Type 0 where
  by_atom : {g : Name} {a : Atom} {x : Var} (on : Var) → held_in g f.goals ≡ Some (an_atom a) → AtomWaitsOn p (whole f) a on → Equal (whole f) (variable x) (variable on)
      → IsIn x.frame f.content.frames → Watches p f g x
  by_choice : {g : Name} {o : Operator} {bs : Boxes} {m : Found} {x : Var} (n : Name) → held_in g f.goals ≡ Some (a_choice o bs) → alternative_of f n bs ≡ Some m → TouchesWithin p m x
      → IsIn x.frame f.content.frames → Watches p f g x
