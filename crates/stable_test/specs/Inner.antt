-- What the places in a box and inside it touch from outside of it.
use Rattle.std.specs.Prelude.{◌≡◌, ℕ, List, [], ◌∷◌, ◌++◌}
use Rattle.akl_terms.specs.declared.name.Name.{Name}
use Rattle.akl_terms.specs.declared.name.Var.{Var}
use Rattle.akl_terms.specs.declared.name.Place.{Place}
use Rattle.akl_terms.specs.declared.program.Program.{Program}
use Rattle.akl_terms.specs.Tree.{variable}
use Rattle.akl_terms.specs.Equal.{Equations, Equal, IsConsistent}
use Rattle.akl_terms.specs.Touching.{IsUnbound, Touches}
use Rattle.akl_model.specs.Config.{Found, environment, whole}
use Rattle.akl_model.specs.Stable.{only, frames_of, IsAwaited, TouchesFrom}
use Rattle.akl_model.specs.Wakes.{SomeBox}
use Rattle.constraint_laws.specs.Touched.{IsAmong}
use Rattle.local_store.specs.Stored.{Stored, nothing}
use Rattle.box_tree.specs.declared.inside.Inside.{Inside}
use Rattle.box_tree.specs.Views.{ViewValue}
use Rattle.box_tree.specs.Insides.{IsViewInside}
use Rattle.stable_test.specs.Frames.{with_all_frames}
use Rattle.stable_test.specs.Seen.{IsSeenInside}

-- a view of a place in a box with so many boxes around it, or inside it, and a store with the frames of all boxes there, and nothing else
pub record IsInnerView (p : Program) (depth : ℕ) (frames : Stored) (v : ViewValue) : Type 0 where
  pub inside : Inside
  pub seen : IsSeenInside p depth inside
  pub all_frames : frames ≡ with_all_frames nothing inside.boxes.items
  pub view : IsViewInside seen.table seen.journal seen.name seen.worker v

-- what stands at a place touches a variable from outside: a box by the equations down to it, and a goal by what it waits on
abbrev pub TouchesAt : Program → List Name → Equations → Found → Place → Var → Type 0
TouchesAt p inner outer d (Place.Box n) x = Touches inner outer (whole d) x
TouchesAt p inner outer d (Place.Goal g) x = IsUnbound inner outer x × ((w : IsAwaited p d x) × (w.goal ≡ g))

-- variables that a box touches from outside, and to one of them each variable that what stands at the place touches is equal by the environment.
-- Where all is inconsistent nothing is listed
pub record AreTouchedByPlace (p : Program) (inner : List Name) (outer : Equations) (d : Found) (place : Place) (list : List Var) : Type 0 where
  pub consistent : (x : Var) → IsAmong x list → IsConsistent (whole d)
  pub each : (x : Var) → IsAmong x list → TouchesFrom p inner outer d x
  pub every : IsConsistent (whole d) → (x : Var) → TouchesAt p inner outer d place x → (y : Var) × IsAmong y list × Equal outer (variable x) (variable y)

-- the same of a view's place, from outside of the box that is seen
abbrev pub ListsTouched : (p : Program) (depth : ℕ) (frames : Stored) (v : ViewValue) → IsInnerView p depth frames v → List Var → Type 0
ListsTouched p depth frames v s list = AreTouchedByPlace p (frames_of (only s.seen.site)) (environment s.seen.site) s.view.seen.site v.place list

-- a box, or one inside it, to which all is consistent, touches a variable from outside in any way
abbrev pub IsTouchedInside : Program → Found → Var → Type 0
IsTouchedInside p f x = SomeBox (λ (d : Found). IsConsistent (whole d) × TouchesFrom p (frames_of (only f)) (environment f) d x) f.around (only f)

-- such variables, and to one of them each such variable is equal by the environment
pub record AreTouchedInside (p : Program) (f : Found) (list : List Var) : Type 0 where
  pub each : (x : Var) → IsAmong x list → IsTouchedInside p f x
  pub every : (x : Var) → IsTouchedInside p f x → (y : Var) × IsAmong y list × Equal (environment f) (variable x) (variable y)

-- what is listed view by view
abbrev pub ListedBy : Program → ℕ → Stored → List ViewValue → List Var → Type 0
ListedBy p depth frames [] list = list ≡ []
ListedBy p depth frames (v ∷ vs) list = (front : List Var) × (back : List Var) × (list ≡ front ++ back) × ((s : IsInnerView p depth frames v) → ListsTouched p depth frames v s front) × ListedBy p depth frames vs back
