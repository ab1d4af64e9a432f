-- In a root box a plan needs to read no more bindings than those of the variables that it lists as bound.
use Rattle.std.specs.Prelude.{◌≡◌, List, [], ◌++◌, ◌↔◌}
use Rattle.akl_terms.specs.declared.name.Name.{Name}
use Rattle.akl_terms.specs.declared.name.Var.{Var}
use Rattle.akl_terms.specs.declared.program.Program.{Program}
use Rattle.akl_terms.specs.Equal.{Equations, IsTold, IsConsistent, IsQuiet}
use Rattle.akl_terms.specs.Tree.{Tree}
use Rattle.akl_terms.specs.Touching.{IsLocal, IsOutside}
use Rattle.constraint_laws.specs.Growth.{TellsOver}
use Rattle.constraint_laws.specs.Touched.{IsAmong}
use Rattle.akl_model.specs.declared.item.Item.{Item}
use Rattle.akl_model.specs.declared.label.Rule.{Rule}
use Rattle.akl_model.specs.declared.label.Label.{Label}
use Rattle.akl_model.specs.Config.{Config, whole}
use Rattle.akl_model.specs.Derivations.{Applies}
use Rattle.step_laws.specs.Bound.{AreBoundIn, outermost_equations}
use Rattle.step_laws.specs.Stays.{GoesOn}
use Rattle.plan_laws.specs.Local.{Told, Becomes, NewGoals, reduces}
use Rattle.plan_laws.specs.Right.{IsRightOn}
use Rattle.reading_laws.specs.Boxes.{EndUnchanged, BoxesUnchanged}
use Rattle.reading_laws.specs.Unchanged.{Unchanged, AreEnough}

-- a label that is right later still, of a place in a root box that is consistent then, and none of the variables that it lists was bound since
pub record ReadsListed {rules : List Rule} {p : Program} {c : Config} {ls : List Label} {d : Config} (w : GoesOn rules p c ls d) {l : Label} {e : Config} (a : Applies rules p c l e) (r : IsRightOn a d)
    (told : Told) (list : List Var) : Type 0 where
  pub goal : Name
  pub becomes : Becomes
  pub new : NewGoals
  pub change : r.change ≡ reduces told goal becomes new
  pub root : a.site.around ≡ []
  pub consistent : IsConsistent (whole r.applies.site)
  pub bindings : (x : Var) → IsAmong x list → Unchanged rules p c ls d w.derives (Item.Binding x)

-- then what it tells clashes as it did, and the list is enough as it was. Neither frames, nor ports, nor what its terms reach, nor what the solver followed is read
abbrev pub ListedLaw : Type 0
ListedLaw = (rules : List Rule) (p : Program) (c : Config) (ls : List Label) (d : Config) (w : GoesOn rules p c ls d) (l : Label) (e : Config) (a : Applies rules p c l e) (r : IsRightOn a d) (told : Told) (list : List Var)
    → AreBoundIn c e a.site list → ReadsListed w a r told list
    → (IsConsistent (whole a.site ++ told.equations) ↔ IsConsistent (whole r.applies.site ++ told.equations)) × ((result : Config) (now : Applies rules p d l result) → AreBoundIn d result now.site list)

-- in an inner box what is read beside the same list is a list that is enough for the equations of the boxes inside the root box, and the constraints down to the box
pub record ReadsInnerListed {rules : List Rule} {p : Program} {c : Config} {ls : List Label} {d : Config} (w : GoesOn rules p c ls d) {l : Label} {e : Config} (a : Applies rules p c l e) (r : IsRightOn a d)
    (told : Told) (list : List Var) : Type 0 where
  pub goal : Name
  pub becomes : Becomes
  pub new : NewGoals
  pub change : r.change ≡ reduces told goal becomes new
  pub stores : BoxesUnchanged rules p c ls d w.derives a.site
  pub inner : List Var
  pub enough : AreEnough inner a.site
  pub within : (x : Var) → IsAmong x inner → EndUnchanged rules p c ls d w.derives (outermost_equations a.site) x
  pub bindings : (x : Var) → IsAmong x list → Unchanged rules p c ls d w.derives (Item.Binding x)

-- then it does as in a root box
abbrev pub InnerListedLaw : Type 0
InnerListedLaw = (rules : List Rule) (p : Program) (c : Config) (ls : List Label) (d : Config) (w : GoesOn rules p c ls d) (l : Label) (e : Config) (a : Applies rules p c l e) (r : IsRightOn a d)
    (told : Told) (list : List Var) → AreBoundIn c e a.site list → ReadsInnerListed w a r told list
    → (IsConsistent (whole a.site ++ told.equations) ↔ IsConsistent (whole r.applies.site ++ told.equations)) × ((result : Config) (now : Applies rules p d l result) → AreBoundIn d result now.site list)

-- quiet equations stay quiet where their environment grows consistently, over variables that aren't theirs: so the guards of `->` and `|` read no bindings
abbrev pub QuietStaysLaw : Type 0
QuietStaysLaw = (E G C : Equations) (local : List Name) → ((s t : Tree) → IsTold E s t → IsTold G s t) → TellsOver (IsOutside local) G → IsConsistent G
    → IsQuiet E (IsLocal local) C → IsQuiet G (IsLocal local) C
