-- The variables that a plan lists: they are enough at a later configuration, and tell whether one that is external to their box is bound.
use Rattle.std.specs.Prelude.{◌≡◌, ℕ, List, ◌++◌, length, Some, slice_index}
use Rattle.akl_terms.specs.declared.name.Name.{Name}
use Rattle.akl_terms.specs.declared.name.Var.{Var}
use Rattle.akl_terms.specs.declared.program.Program.{Program}
use Rattle.akl_terms.specs.declared.program.Query.{Query}
use Rattle.akl_terms.specs.Touching.{IsOutside}
use Rattle.constraint_laws.specs.Touched.{IsAmong}
use Rattle.akl_model.specs.declared.label.Rule.{Rule}
use Rattle.akl_model.specs.declared.label.Label.{Label}
use Rattle.akl_model.specs.Config.{IsIn, with_names, Config, Found, box_at, home_of}
use Rattle.akl_model.specs.Derivations.{Applies, Derives, Replays}
use Rattle.akl_model.specs.Changes.{Binds}
use Rattle.akl_model.specs.Stable.{only, frames_of}
use Rattle.akl_model.specs.Names.{HasDistinctNames}
use Rattle.plan_laws.specs.Right.{NoneBy}
use Rattle.plan_laws.specs.Stamps as stamps
use Rattle.plan_laws.specs.AtOnce.{IsAtOnce, at_once, AreInForce, IsAtOnceIn}
use Rattle.table_laws.specs.Rows.{Table}
use Rattle.table_laws.specs.Stamped.{Run, IsTableOf}
use Rattle.table_laws.specs.Steps.{Step, tells, joins, Makes, ReadsFor}
use Rattle.step_laws.specs.Bound.{AreBoundIn}

-- variables that a step's label binds for a prefix of a run, enough of them, are so for the whole of it, where what the step reads was changed by no
-- label after the prefix, by its stamps, and its worker has made no label since
abbrev pub BindsLaterLaw : Type 0
BindsLaterLaw = (rules : List Rule) (p : Program) (q : Query) (journal further : List Label) (c d : Config) (l : Label) (e : Config) (a : Applies rules p c l e) (step : Step) (list : List Var)
    → Replays rules p q journal c → Derives rules p c further d → NoneBy l further
    → ReadsFor (stamps.IsStamped rules p q (journal ++ further) (length journal)) l a.site step → Makes p l (slice_index c.next l.worker) a.site step → AreBoundIn c e a.site list
    → (result : Config) (now : Applies rules p d l result) → AreBoundIn d result now.site list

-- variables that the net change of a call at once binds, enough of them, are so of the same call in another configuration
abbrev pub CallBindsAgainLaw : Type 0
CallBindsAgainLaw = (rules : List Rule) → AreInForce rules → (p : Program) (c : Config) → HasDistinctNames c → (w : ℕ) (g : Name) (f : Found) → home_of g c.roots ≡ Some f → (x : IsAtOnce p c w g f)
    → (d : Config) → HasDistinctNames d → (y : IsAtOnceIn rules x d) → (list : List Var) → AreBoundIn c (at_once x) f list → AreBoundIn d (at_once y.again) y.site list

-- from c to d a variable is bound in a box to which it is external
pub record BindsOutside (c d : Config) (n : Name) : Type 0 where
  pub variable : Var
  pub binds : Binds c d n variable
  pub outside : IsOutside (frames_of (only binds.adds.afterwards)) variable

-- one of the variables is of none of these frames
pub record HasOuter (list : List Var) (frames : List Name) : Type 0 where
  pub variable : Var
  pub listed : IsAmong variable list
  pub outer : IsIn variable.frame frames → ⊥

-- so it is exactly where one of the listed variables is of none of the box's own frames afterwards
abbrev pub ListedOutsideLaw : Type 0
ListedOutsideLaw = (rules : List Rule) (p : Program) (q : Query) (journal : List Label) (c : Config) (l : Label) (d : Config) → Replays rules p q journal c → (a : Applies rules p c l d) (list : List Var) → AreBoundIn c d a.site list
    → (f : Found) → box_at a.site.content.name d.roots ≡ Some f
    → (BindsOutside c d a.site.content.name → HasOuter list f.content.frames) × (HasOuter list f.content.frames → BindsOutside c d a.site.content.name)

-- the step gives its box a store, and one of the variables is of none of this store's frames
abbrev pub HasOuterIn : List Var → Step → Type 0
HasOuterIn list (tells new solved) = HasOuter list new.frames
HasOuterIn list (joins new solved goals) = HasOuter list new.frames
HasOuterIn list step = ⊥

-- so it is seen by the step alone
abbrev pub StepOutsideLaw : Type 0
StepOutsideLaw = (rules : List Rule) (r : Run) (T : Table) (l : Label) (d : Config) (t : IsTableOf rules r T) (a : Applies rules r.program t.config l d) (step : Step)
    → Makes r.program l (slice_index t.config.next l.worker) a.site step → (list : List Var) → AreBoundIn t.config d a.site list
    → (BindsOutside t.config d a.site.content.name → HasOuterIn list step) × (HasOuterIn list step → BindsOutside t.config d a.site.content.name)

-- and of a call at once by the frames that its box has afterwards
abbrev pub CallOutsideLaw : Type 0
CallOutsideLaw = (rules : List Rule) → AreInForce rules → (p : Program) (q : Query) (journal : List Label) (c : Config) → Replays rules p q journal c → (w : ℕ) (g : Name) (f : Found) → home_of g c.roots ≡ Some f
    → (x : IsAtOnce p c w g f) → (list : List Var) → AreBoundIn c (at_once x) f list → (frames : List Name) → frames ≡ with_names x.last.frames f.content.frames
    → (BindsOutside c (at_once x) f.content.name → HasOuter list frames) × (HasOuter list frames → BindsOutside c (at_once x) f.content.name)
