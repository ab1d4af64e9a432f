-- What is seen of a goal, and of the alternatives of a choice.
use Rattle.std.specs.Prelude.{◌≡◌, ℕ, List, length, Some}
use Rattle.akl_terms.specs.declared.name.Name.{Name}
use Rattle.akl_terms.specs.declared.name.Var.{Var}
use Rattle.akl_terms.specs.declared.name.Place.{Place}
use Rattle.akl_terms.specs.declared.program.Goal.{Goal}
use Rattle.akl_terms.specs.declared.program.Program.{Program}
use Rattle.akl_terms.specs.Tree.{variable}
use Rattle.akl_terms.specs.Equal.{Equal}
use Rattle.akl_model.specs.Config.{IsIn, Found, environment, box_at}
use Rattle.akl_model.specs.Stable.{AtomWaitsOn}
use Rattle.constraint_laws.specs.Touched.{IsAmong}
use Rattle.local_store.specs.Stored.{Stored}
use Rattle.local_store.specs.Chained.{equations_of}
use Rattle.box_tree.specs.Tables.{goal_atom}
use Rattle.box_tree.specs.Views.{ViewValue}
use Rattle.stable_test.specs.Inner.{IsTouchedInside, AreTouchedInside}
use Rattle.step_commit.specs.Cores.{CoreValue, TableIn}

-- a view of a goal in a core's configuration
pub record IsGoalView (c : CoreValue) (g : Name) (v : ViewValue) : Type 0 where
  pub table : v.table ≡ c.table
  pub journal : v.journal ≡ c.journal
  pub place : v.place ≡ Place.Goal g

-- a box is there, with so many boxes around it
pub record IsBoxWithin (c : CoreValue) (n : Name) (depth : ℕ) : Type 0 where
  pub table : TableIn c
  pub site : Found
  pub is_site : box_at n table.config.roots ≡ Some site
  pub deep : length site.around ≡ depth

-- an atom waits on these by the stores down to it, and if it waits on any, on one of these
pub record AreAwaited (p : Program) (ss : List Stored) (atom : Goal) (of : List Var) : Type 0 where
  pub each : (x : Var) → IsAmong x of → AtomWaitsOn p (equations_of p.templates.nodes ss) (goal_atom p.templates.nodes atom) x
  pub some : (x : Var) → AtomWaitsOn p (equations_of p.templates.nodes ss) (goal_atom p.templates.nodes atom) x → (y : Var) × IsAmong y of

-- what the box of a name, or a box inside it, touches from outside of it, and to one of these each such variable is equal by the environment
abbrev pub AreTouchedIn : CoreValue → Name → List Var → Type 0
AreTouchedIn c n of = (t : TableIn c) (m : Found) → box_at n t.config.roots ≡ Some m → AreTouchedInside c.table.program m of

-- the same of several boxes
pub record AreTouchedBy (c : CoreValue) (names : List Name) (of : List Var) : Type 0 where
  pub each : (x : Var) → IsAmong x of → (n : Name) × IsIn n names × ((t : TableIn c) (m : Found) → box_at n t.config.roots ≡ Some m → IsTouchedInside c.table.program m x)
  pub every : (n : Name) → IsIn n names → (t : TableIn c) (m : Found) → box_at n t.config.roots ≡ Some m → (x : Var) → IsTouchedInside c.table.program m x
      → (y : Var) × IsAmong y of × Equal (environment m) (variable x) (variable y)
