-- Places that don't become ready while the little that they watch is unchanged, in the fine detail.
use Rattle.akl_model.specs.declared.item.Item.{Item}
use Rattle.constraint_laws.specs.Touched.{IsAmong}
use Rattle.std.specs.Prelude.{◌≡◌, false, List, Some}
use Rattle.akl_terms.specs.declared.name.Name.{Name}
use Rattle.akl_terms.specs.declared.name.Var.{Var}
use Rattle.akl_terms.specs.declared.name.Place.{Place}
use Rattle.akl_terms.specs.declared.program.Program.{Program}
use Rattle.akl_model.specs.declared.label.Rule.{Rule}
use Rattle.akl_model.specs.declared.label.Label.{Label}
use Rattle.akl_model.specs.Config.{IsIn, Config, Found, box_at}
use Rattle.akl_model.specs.Derivations.{IsReady}
use Rattle.akl_model.specs.Stable.{only}
use Rattle.akl_model.specs.Wakes.{names_around, has_candidate}
use Rattle.step_laws.specs.Stays.{GoesOn}
use Rattle.step_laws.specs.Inside.{EachItem}
use Rattle.step_laws.specs.Bound.{outermost_equations}
use Rattle.reading_laws.specs.Boxes.{EndUnchanged}
use Rattle.reading_laws.specs.Unchanged.{Unchanged, AreEnough}

-- a box without a candidate of a split watches all inside it, the constraints around it, and what each variable of a list that is enough is bound to
pub record WatchesBox (rules : List Rule) (p : Program) (c : Config) (ls : List Label) (d : Config) (w : GoesOn rules p c ls d) (n : Name) (f : Found) (reads : List Var) : Type 0 where
  pub inside : EachItem (Unchanged rules p c ls d w.derives) (only f)
  pub around : (m : Name) → IsIn m (names_around f) → Unchanged rules p c ls d w.derives (Item.Store m)
  pub enough : AreEnough reads f
  pub bindings : (x : Var) → IsAmong x reads → EndUnchanged rules p c ls d w.derives (outermost_equations f) x

abbrev pub IdleBoxLaw : Type 0
IdleBoxLaw = (rules : List Rule) (p : Program) (c : Config) (ls : List Label) (d : Config) (w : GoesOn rules p c ls d) (n : Name) (f : Found) (reads : List Var) → box_at n c.roots ≡ Some f
    → WatchesBox rules p c ls d w n f reads → has_candidate f.goals ≡ false → (IsReady rules p c (Place.Box n) → ⊥) → IsReady rules p d (Place.Box n) → ⊥
