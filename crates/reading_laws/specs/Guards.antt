-- What Cut and Promote read, in root boxes and in inner ones.
use Rattle.std.specs.Prelude.{◌≡◌, List, [], ◌++◌, Some, ⊤}
use Rattle.akl_terms.specs.declared.name.Name.{Name}
use Rattle.akl_terms.specs.declared.name.Var.{Var}
use Rattle.akl_terms.specs.declared.name.Place.{Place}
use Rattle.akl_terms.specs.declared.program.Program.{Program}
use Rattle.akl_terms.specs.Tree.{variable}
use Rattle.akl_terms.specs.Equal.{Equations, Equal, IsConsistent}
use Rattle.constraint_laws.specs.Bound.{IsNewlyBound}
use Rattle.constraint_laws.specs.Touched.{IsAmong}
use Rattle.akl_model.specs.declared.item.Item.{Item}
use Rattle.akl_model.specs.declared.label.Rule.{Rule}
use Rattle.akl_model.specs.declared.label.Label.{Label}
use Rattle.akl_model.specs.Config.{Operator, Boxes, Config, a_choice, held_in, Found, whole, box_at}
use Rattle.akl_model.specs.Rules.{alternative_of}
use Rattle.akl_model.specs.Derivations.{Applies}
use Rattle.step_laws.specs.Stays.{GoesOn}
use Rattle.plan_laws.specs.Right.{NoneBy}
use Rattle.step_laws.specs.Bound.{outermost_equations}
use Rattle.reading_laws.specs.Boxes.{EndUnchanged, BoxesUnchanged}
use Rattle.reading_laws.specs.Unchanged.{Unchanged, AreEnough}
use Rattle.reading_laws.specs.AtomRight.{ReducesStill}

-- the rules at an alternative of a choice
abbrev pub IsOfChoice : Rule → Type 0
IsOfChoice Rule.Cut = ⊤
IsOfChoice Rule.Promote = ⊤
IsOfChoice r = ⊥

-- all that equations bind over others, with one of each class
abbrev pub Lists : Equations → Equations → List Var → Type 0
Lists E C list = (x : Var) → IsNewlyBound E (E ++ C) x → (y : Var) × IsAmong y list × Equal E (variable x) (variable y)

-- the choice is unchanged, its box didn't become inconsistent, and what the alternative binds under the guard `?` isn't bound since
pub record KeepsGuard (rules : List Rule) (p : Program) (c : Config) (ls : List Label) (d : Config) (w : GoesOn rules p c ls d) (g n : Name) (f : Found) (list : List Var) : Type 0 where
  pub goal : Unchanged rules p c ls d w.derives (Item.Goal g)
  pub now : Found
  pub is_now : box_at f.content.name d.roots ≡ Some now
  pub consistent : IsConsistent (whole f) → IsConsistent (whole now)
  pub unbound : (bs : Boxes) (m : Found) → held_in g f.goals ≡ Some (a_choice Operator.nondeterminate bs) → alternative_of f n bs ≡ Some m → Lists (whole f) m.content.equations list
      × ((x : Var) → IsAmong x list → IsConsistent (whole f) → IsNewlyBound (whole f) (whole now) x → ⊥)

-- the choice is unchanged, its box is a root box and consistent later, and with the guard `?` a list of what the alternative binds is unbound since: with `->` and `|`
-- no binding is read
pub record ReadsRootGuard (rules : List Rule) (p : Program) (c : Config) (ls : List Label) (d : Config) (w : GoesOn rules p c ls d) (g n : Name) (f : Found) (list : List Var) : Type 0 where
  pub goal : Unchanged rules p c ls d w.derives (Item.Goal g)
  pub root : f.around ≡ []
  pub now : Found
  pub is_now : box_at f.content.name d.roots ≡ Some now
  pub consistent : IsConsistent (whole now)
  pub bindings : (bs : Boxes) (m : Found) → held_in g f.goals ≡ Some (a_choice Operator.nondeterminate bs) → alternative_of f n bs ≡ Some m → Lists (whole f) m.content.equations list × ((x : Var) → IsAmong x list → Unchanged rules p c ls d w.derives (Item.Binding x))

-- then a label of Cut or Promote leads on, with the same local change
abbrev pub RootGuardLaw : Type 0
RootGuardLaw = (rules : List Rule) (p : Program) (c : Config) (ls : List Label) (d : Config) (w : GoesOn rules p c ls d) (l : Label) (e : Config) (a : Applies rules p c l e) → NoneBy l ls
    → (g n : Name) → IsOfChoice l.rule → l.place ≡ Place.Goal g → l.alternative ≡ Some n → (list : List Var) → ReadsRootGuard rules p c ls d w g n a.site list → ReducesStill a d

-- in an inner box, what the equations of the boxes inside the root box reach is read beside the same list, and the constraints down to the box
pub record ReadsInnerGuard (rules : List Rule) (p : Program) (c : Config) (ls : List Label) (d : Config) (w : GoesOn rules p c ls d) (g n : Name) (f : Found) (list : List Var) : Type 0 where
  pub goal : Unchanged rules p c ls d w.derives (Item.Goal g)
  pub stores : BoxesUnchanged rules p c ls d w.derives f
  pub inner : List Var
  pub enough : AreEnough inner f
  pub within : (x : Var) → IsAmong x inner → EndUnchanged rules p c ls d w.derives (outermost_equations f) x
  pub bindings : (bs : Boxes) (m : Found) → held_in g f.goals ≡ Some (a_choice Operator.nondeterminate bs) → alternative_of f n bs ≡ Some m → Lists (whole f) m.content.equations list × ((x : Var) → IsAmong x list → Unchanged rules p c ls d w.derives (Item.Binding x))

abbrev pub InnerGuardLaw : Type 0
InnerGuardLaw = (rules : List Rule) (p : Program) (c : Config) (ls : List Label) (d : Config) (w : GoesOn rules p c ls d) (l : Label) (e : Config) (a : Applies rules p c l e) → NoneBy l ls
    → (g n : Name) → IsOfChoice l.rule → l.place ≡ Place.Goal g → l.alternative ≡ Some n → (list : List Var) → ReadsInnerGuard rules p c ls d w g n a.site list → ReducesStill a d
