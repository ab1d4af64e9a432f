-- What a plan reads, by items alone, in every box: its goal, the constraints down to its box, the variables that it lists as bound, and for the boxes inside the root box
-- a list that is enough for their equations.
use Rattle.std.specs.Prelude.{◌≡◌, List, ◌++◌, Some, ◌↔◌}
use Rattle.akl_terms.specs.declared.name.Name.{Name}
use Rattle.akl_terms.specs.declared.name.Var.{Var}
use Rattle.akl_terms.specs.declared.name.Place.{Place}
use Rattle.akl_terms.specs.declared.program.Program.{Program}
use Rattle.akl_terms.specs.Equal.{IsConsistent}
use Rattle.constraint_laws.specs.Touched.{IsAmong}
use Rattle.akl_model.specs.declared.item.Item.{Item}
use Rattle.akl_model.specs.declared.label.Rule.{Rule}
use Rattle.akl_model.specs.declared.label.Label.{Label}
use Rattle.akl_model.specs.Config.{Config, Found, whole}
use Rattle.akl_model.specs.Derivations.{Applies}
use Rattle.step_laws.specs.Bound.{AreBoundIn, outermost_equations}
use Rattle.step_laws.specs.Stays.{GoesOn}
use Rattle.plan_laws.specs.Right.{NoneBy}
use Rattle.reading_laws.specs.AtomRight.{ReducesStill}
use Rattle.reading_laws.specs.Guards.{ReadsInnerGuard}
use Rattle.reading_laws.specs.Boxes.{EndUnchanged, BoxesUnchanged}
use Rattle.reading_laws.specs.Unchanged.{Unchanged, AreEnough}
use Rattle.reading_laws.specs.Guards.{IsOfChoice}
use Rattle.reading_laws.specs.AtomRight.{IsOfAtom}

-- no item of these is changed. For a root box the inner list is empty
pub record ReadsItems (rules : List Rule) (p : Program) (c : Config) (ls : List Label) (d : Config) (w : GoesOn rules p c ls d) (g : Name) (f : Found) (list : List Var) : Type 0 where
  pub goal : Unchanged rules p c ls d w.derives (Item.Goal g)
  pub stores : BoxesUnchanged rules p c ls d w.derives f
  pub inner : List Var
  pub enough : AreEnough inner f
  pub within : (x : Var) → IsAmong x inner → EndUnchanged rules p c ls d w.derives (outermost_equations f) x
  pub bindings : (x : Var) → IsAmong x list → Unchanged rules p c ls d w.derives (Item.Binding x)

-- the label leads on with the same local change, clashes as it did, and binds what the list says
pub record StaysRight {rules : List Rule} {p : Program} {c : Config} {l : Label} {e : Config} (a : Applies rules p c l e) (d : Config) (list : List Var) : Type 0 where
  pub still : ReducesStill a d
  pub clash : IsConsistent (whole a.site ++ still.told.equations) ↔ IsConsistent (whole still.right.applies.site ++ still.told.equations)
  pub binds : (result : Config) (now : Applies rules p d l result) → AreBoundIn d result now.site list

-- Tell, Fork, Open, Eval and Send
abbrev pub AtomPlanLaw : Type 0
AtomPlanLaw = (rules : List Rule) (p : Program) (c : Config) (ls : List Label) (d : Config) (w : GoesOn rules p c ls d) (l : Label) (e : Config) (a : Applies rules p c l e) → NoneBy l ls
    → (g : Name) → IsOfAtom l.rule → l.place ≡ Place.Goal g → (list : List Var) → AreBoundIn c e a.site list → ReadsItems rules p c ls d w g a.site list → StaysRight a d list

-- and Collect
abbrev pub CollectPlanLaw : Type 0
CollectPlanLaw = (rules : List Rule) (p : Program) (c : Config) (ls : List Label) (d : Config) (w : GoesOn rules p c ls d) (l : Label) (e : Config) (a : Applies rules p c l e) → NoneBy l ls
    → (g : Name) → l.rule ≡ Rule.Collect → l.place ≡ Place.Goal g → (list : List Var) → AreBoundIn c e a.site list → ReadsItems rules p c ls d w g a.site list → StaysRight a d list

-- Cut and Promote: of the guard `?` the list also has what the alternative binds
abbrev pub ChoicePlanLaw : Type 0
ChoicePlanLaw = (rules : List Rule) (p : Program) (c : Config) (ls : List Label) (d : Config) (w : GoesOn rules p c ls d) (l : Label) (e : Config) (a : Applies rules p c l e) → NoneBy l ls
    → (g n : Name) → IsOfChoice l.rule → l.place ≡ Place.Goal g → l.alternative ≡ Some n → (list : List Var) → AreBoundIn c e a.site list → ReadsItems rules p c ls d w g a.site list
    → ReadsInnerGuard rules p c ls d w g n a.site list → StaysRight a d list
