-- A place that was found idle before the last labels: while these leave what it watches, the variables that it waits on are as good as they were.
use Rattle.std.specs.Prelude.{◌≡◌, false, List, [], Some}
use Rattle.akl_terms.specs.declared.name.Name.{Name}
use Rattle.akl_terms.specs.declared.name.Var.{Var}
use Rattle.akl_terms.specs.declared.name.Place.{Place}
use Rattle.akl_terms.specs.declared.program.Program.{Program}
use Rattle.akl_terms.specs.declared.program.Query.{Query}
use Rattle.akl_model.specs.declared.item.Item.{Item}
use Rattle.akl_model.specs.declared.label.Rule.{Rule}
use Rattle.akl_model.specs.declared.label.Label.{Label}
use Rattle.akl_model.specs.Config.{Config, Found, box_at, site_of}
use Rattle.akl_model.specs.Conditions.{HasFailed}
use Rattle.akl_model.specs.Derivations.{Replays, IsReady}
use Rattle.akl_model.specs.Wakes.{has_candidate, Concerns}
use Rattle.step_laws.specs.Stays.{GoesOn, Leaves}
use Rattle.plan_laws.specs.Idle.{Watches}
use Rattle.plan_laws.specs.ByGoals.{by_goals}
use Rattle.plan_laws.specs.Sleeps.{Needs, IsEnough}
use Rattle.plan_laws.specs.Waits.{IsScopedAt, HasOldestAt}

-- they are enough for it
abbrev pub StillEnoughLaw : Type 0
StillEnoughLaw = (rules : List Rule) (p : Program) (c : Config) (ls : List Label) (d : Config) (w : GoesOn rules p c ls d) (place : Place) (f : Found) → site_of place c.roots ≡ Some f
    → Watches (λ (i : Item). Leaves w (by_goals i)) place f → (kept : List Var) → IsEnough p c kept place → IsEnough p d kept place

-- the oldest of each class are among them
abbrev pub StillOldestLaw : Type 0
StillOldestLaw = (rules : List Rule) (p : Program) (c : Config) (ls : List Label) (d : Config) (w : GoesOn rules p c ls d) (place : Place) (f : Found) → site_of place c.roots ≡ Some f
    → Watches (λ (i : Item). Leaves w (by_goals i)) place f → (kept : List Var) → HasOldestAt c place kept → HasOldestAt d place kept

-- what concerns it concerns it still
abbrev pub StillConcernLaw : Type 0
StillConcernLaw = (rules : List Rule) (p : Program) (c : Config) (ls : List Label) (d : Config) (w : GoesOn rules p c ls d) (place : Place) (f : Found) → site_of place c.roots ≡ Some f
    → Watches (λ (i : Item). Leaves w (by_goals i)) place f → (x : Var) → Concerns p c x place → Concerns p d x place

-- and each is in scope
abbrev pub StillScopedLaw : Type 0
StillScopedLaw = (rules : List Rule) (p : Program) (c : Config) (ls : List Label) (d : Config) (w : GoesOn rules p c ls d) (place : Place) (f : Found) → site_of place c.roots ≡ Some f
    → Watches (λ (i : Item). Leaves w (by_goals i)) place f → (x : Var) → IsScopedAt c place x → IsScopedAt d place x

-- a root box needs to be told of nothing, and nothing concerns it
abbrev pub RootNeedsNothingLaw : Type 0
RootNeedsNothingLaw = (rules : List Rule) (p : Program) (q : Query) (journal : List Label) (c : Config) → Replays rules p q journal c → (n : Name) (f : Found) → box_at n c.roots ≡ Some f → f.around ≡ []
    → (x : Var) → (Needs p c (Place.Box n) x → ⊥) × (Concerns p c x (Place.Box n) → ⊥)

-- it isn't ready after labels that leave its set of goals, where it has no goal by which it fails and no candidate of a split, whatever changed inside it
abbrev pub RootStillLaw : Type 0
RootStillLaw = (rules : List Rule) (p : Program) (c : Config) (ls : List Label) (d : Config) (w : GoesOn rules p c ls d) (n : Name) (f : Found) → box_at n c.roots ≡ Some f → f.around ≡ []
    → Leaves w (Item.Goals n) → (IsReady rules p c (Place.Box n) → ⊥) → (k : Found) → box_at n d.roots ≡ Some k → (HasFailed k.goals → ⊥) → has_candidate k.goals ≡ false → IsReady rules p d (Place.Box n) → ⊥
