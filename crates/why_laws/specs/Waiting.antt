-- What a root box is said to wait on: for each goal the least variable of each class that it watches.
use Rattle.std.specs.Prelude.{◌≡◌, List, [], ◌∷◌, Some, ⊤}
use Rattle.std.specs.declared.cmp.Ordering.TheVariants.{Less}
use Rattle.akl_terms.specs.declared.name.Name.{Name}
use Rattle.akl_terms.specs.declared.name.Var.{Var}
use Rattle.akl_terms.specs.declared.program.Program.{Program}
use Rattle.akl_terms.specs.declared.program.Query.{Query}
use Rattle.akl_terms.specs.Names.{var_cmp}
use Rattle.akl_terms.specs.Tree.{variable}
use Rattle.akl_terms.specs.Equal.{Equal, IsStructured}
use Rattle.akl_model.specs.declared.label.Rule.{Rule}
use Rattle.akl_model.specs.declared.label.Label.{Label}
use Rattle.akl_model.specs.Config.{Config, Found, whole, box_at}
use Rattle.akl_model.specs.Changes.{goal_names}
use Rattle.akl_model.specs.Derivations.{Replays}
use Rattle.constraint_laws.specs.Touched.{IsAmong}
use Rattle.constraint_laws.specs.Oldest.{IsOldest}
use Rattle.why_laws.specs.Watched.{Watches}

-- variables by frame and then by index, each once
abbrev pub AreBehind : Var → List Var → Type 0
AreBehind x [] = ⊤
AreBehind x (y ∷ ys) = (var_cmp x y ≡ Less) × AreBehind y ys

abbrev pub AreIncreasing : List Var → Type 0
AreIncreasing [] = ⊤
AreIncreasing (x ∷ xs) = AreBehind x xs

-- the least variable of each class that a goal watches, in increasing order
pub record IsWaitingOn (p : Program) (f : Found) (g : Name) (list : List Var) : Type 0 where
  pub increasing : AreIncreasing list
  pub each : (x : Var) → IsAmong x list → Watches p f g x × IsOldest (whole f) x x
  pub every : (x w : Var) → Watches p f g x → IsOldest (whole f) x w → IsAmong w list

-- a goal, and what it waits on
pub record Waiting : Type 0 where
  pub goal : Name
  pub on : List Var

-- some goals of a box in order, and then each goal directly in it
abbrev pub AreWaitingAt : Program → Found → List Name → List Waiting → Type 0
AreWaitingAt p f [] [] = ⊤
AreWaitingAt p f (g ∷ gs) (w ∷ ws) = (w.goal ≡ g) × IsWaitingOn p f g w.on × AreWaitingAt p f gs ws
AreWaitingAt p f _ _ = ⊥

abbrev pub AreWaiting : Program → Found → List Waiting → Type 0
AreWaiting p f ws = AreWaitingAt p f (goal_names f.goals) ws

-- a root box waits in one way
abbrev pub OneWaitingLaw : Type 0
OneWaitingLaw = (p : Program) (f : Found) (one another : List Waiting) → AreWaiting p f one → AreWaiting p f another → one ≡ another

-- what is watched are whole classes of the root box's equations, none of them structured
abbrev pub WatchedClassLaw : Type 0
WatchedClassLaw = (rules : List Rule) (p : Program) (q : Query) (journal : List Label) (c : Config) → Replays rules p q journal c → (n : Name) (f : Found) → box_at n c.roots ≡ Some f → f.around ≡ []
    → (g : Name) (x : Var) → Watches p f g x → (IsStructured (whole f) x → ⊥) × ((y : Var) → Equal (whole f) (variable x) (variable y) → Watches p f g y)
