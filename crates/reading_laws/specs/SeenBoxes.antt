-- What an idle box, and a label at a box, reads, by stamps and marks.
use Rattle.std.specs.Prelude.{◌≡◌, ◌≤◌, false, List, ◌++◌, length, Some, ◌⊎◌}
use Rattle.akl_terms.specs.declared.name.Name.{Name}
use Rattle.akl_terms.specs.declared.name.Var.{Var}
use Rattle.akl_terms.specs.declared.name.Place.{Place}
use Rattle.akl_terms.specs.declared.program.Program.{Program}
use Rattle.akl_terms.specs.declared.program.Query.{Query}
use Rattle.akl_terms.specs.Tree.{variable}
use Rattle.akl_terms.specs.Equal.{Equal, IsConsistent, IsStructured}
use Rattle.constraint_laws.specs.Touched.{IsAmong}
use Rattle.akl_model.specs.declared.item.Item.{Item}
use Rattle.akl_model.specs.declared.label.Rule.{Rule}
use Rattle.akl_model.specs.declared.label.Label.{Label}
use Rattle.akl_model.specs.Config.{IsIn, Config, Found, whole, box_at}
use Rattle.akl_model.specs.Derivations.{Applies, Derives, Replays, IsReady}
use Rattle.akl_model.specs.Stable.{only}
use Rattle.akl_model.specs.Wakes.{names_around, has_candidate}
use Rattle.step_laws.specs.Bound.{outermost_equations}
use Rattle.step_laws.specs.Inside.{EachItem}
use Rattle.step_laws.specs.Likeness.{IsOld}
use Rattle.plan_laws.specs.Right.{NoneBy, IsRightOn}
use Rattle.reading_laws.specs.Ends.{HasEnds}
use Rattle.reading_laws.specs.Seen.{IsSeen}
use Rattle.reading_laws.specs.Unchanged.{AreEnough}

-- all inside a box is read, the boxes around it, and the bindings of the ends of what the equations of the boxes inside the root box reach. Of a root box these lists are empty
pub record ReadsBox (U : Item → Type 0) (c : Config) (f : Found) : Type 0 where
  pub within : EachItem U (only f)
  pub around : (m : Name) → IsIn m (names_around f) → U (Item.Store m)
  pub inner : List Var
  pub enough : AreEnough inner f
  pub ends : List Var
  pub ended : (x : Var) → IsAmong x inner → IsStructured (outermost_equations f) x ⊎ ((z : Var) × IsAmong z ends × Equal (outermost_equations f) (variable x) (variable z))
  pub oldest : HasEnds c ends
  pub old : (z : Var) → IsAmong z ends → IsOld c z.frame
  pub bindings : (z : Var) → IsAmong z ends → U (Item.Binding z)

-- what is around a consistent box stays consistent: where this is at most a root box, by the constraint of it; else as the box itself does, by ends, or by the sets of goals
pub data ReadsAround (U : Item → Type 0) (c : Config) (f : Found) : Type 0 where
  by_root : length f.around ≤ 1 → ((m : Name) → IsIn m (names_around f) → U (Item.Store m)) → ReadsAround U c f
  by_ends : ReadsBox U c f → ReadsAround U c f
  by_sets : ((m : Name) → IsIn m (names_around f) → U (Item.Goals m)) → ReadsAround U c f

-- a box that is split is stable, and stays so while nothing inside it changes and what is around it stays consistent
pub record ReadsStable (U : Item → Type 0) (c : Config) (f : Found) : Type 0 where
  pub within : EachItem U (only f)
  pub around : ReadsAround U c f

-- a box without a candidate of a split that wasn't ready after a prefix of a journal isn't so after the whole of it, where no label behind the prefix changed what it reads
abbrev pub SeenIdleBoxLaw : Type 0
SeenIdleBoxLaw = (rules : List Rule) (p : Program) (q : Query) (journal further : List Label) (c d : Config) → Replays rules p q journal c → Derives rules p c further d
    → (n : Name) (f : Found) → box_at n c.roots ≡ Some f → ReadsBox (IsSeen rules p q (journal ++ further) (length journal)) c f → has_candidate f.goals ≡ false
    → (IsReady rules p c (Place.Box n) → ⊥) → IsReady rules p d (Place.Box n) → ⊥

-- Fail of a box that clashes leads on where the box is there
abbrev pub SeenFailLaw : Type 0
SeenFailLaw = (rules : List Rule) (p : Program) (q : Query) (journal further : List Label) (c d : Config) (l : Label) (e : Config) (a : Applies rules p c l e) → Replays rules p q journal c → Derives rules p c further d
    → NoneBy l further → (n : Name) → l.rule ≡ Rule.Fail → l.place ≡ Place.Box n → (IsConsistent (whole a.site) → ⊥) → IsSeen rules p q (journal ++ further) (length journal) (Item.Store n) → IsRightOn a d

-- Split of a box where what it reads is as it was
abbrev pub SeenSplitLaw : Type 0
SeenSplitLaw = (rules : List Rule) (p : Program) (q : Query) (journal further : List Label) (c d : Config) (l : Label) (e : Config) (a : Applies rules p c l e) → Replays rules p q journal c → Derives rules p c further d
    → NoneBy l further → (n : Name) → l.rule ≡ Rule.Split → l.place ≡ Place.Box n → ReadsStable (IsSeen rules p q (journal ++ further) (length journal)) c a.site → IsRightOn a d
