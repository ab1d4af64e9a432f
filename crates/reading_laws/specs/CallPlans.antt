-- The plan of a call at once stays right by the items that it reads.
use Rattle.std.specs.Prelude.{◌≡◌, ℕ, List, Some, None}
use Rattle.akl_terms.specs.declared.name.Name.{Name}
use Rattle.akl_terms.specs.declared.name.Var.{Var}
use Rattle.akl_terms.specs.declared.name.Place.{Place}
use Rattle.akl_terms.specs.declared.program.Program.{Program}
use Rattle.akl_model.specs.declared.label.Rule.{Rule}
use Rattle.akl_model.specs.declared.label.Label.{Label}
use Rattle.akl_model.specs.Config.{Config, Found, home_of}
use Rattle.step_laws.specs.Bound.{AreBoundIn}
use Rattle.step_laws.specs.Stays.{GoesOn}
use Rattle.plan_laws.specs.Right.{NoneBy}
use Rattle.plan_laws.specs.AtOnce.{by, IsAtOnce, at_once, AreInForce}
use Rattle.reading_laws.specs.Plans.{ReadsItems}
use Rattle.reading_laws.specs.CallsAgain.{IsAtOnceLater}
use Rattle.reading_laws.specs.QuietGuards.{EvaluatesQuietly}

-- the items of a plan of one label: the goal, the boxes down to it, and the bindings of the list and of one that is enough for its box. And alternatives in which something is evaluated
-- are quiet
pub record ReadsCallItems {rules : List Rule} {p : Program} {c : Config} {ls : List Label} {d : Config} (run : GoesOn rules p c ls d) {w : ℕ} {g : Name} {f : Found} (x : IsAtOnce p c w g f) (list : List Var) : Type 0 where
  pub items : ReadsItems rules p c ls d run g f list
  pub quiet : EvaluatesQuietly x

-- where the worker made no label since, the call leads on, and binds what the list says
abbrev pub CallPlanLaw : Type 0
CallPlanLaw = (rules : List Rule) → AreInForce rules → (p : Program) (c : Config) (ls : List Label) (d : Config) (run : GoesOn rules p c ls d) (w : ℕ) (g : Name) (f : Found) → home_of g c.roots ≡ Some f
    → (x : IsAtOnce p c w g f) → NoneBy (by w Rule.Fork (Place.Goal g) None) ls → (list : List Var) → AreBoundIn c (at_once x) f list → ReadsCallItems run x list
    → (k : Found) × (y : IsAtOnceLater rules x d k) × AreBoundIn d (at_once y.again) k list
