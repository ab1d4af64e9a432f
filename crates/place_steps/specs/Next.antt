-- What comes next at a place.
use Rattle.std.specs.Prelude.{◌≡◌, ◌<◌, ℕ, false, [], length, Some, ◌⊎◌}
use Rattle.akl_model.specs.Config.{Found, site_of}
use Rattle.table_laws.specs.Stamped.{IsTableOf}
use Rattle.box_tree.specs.Tables.{all_rules, table_of}
use Rattle.box_tree.specs.Views.{ViewValue, run_of}
use Rattle.guard_plan.specs.Planned.{IsPlanOf}
use Rattle.idle_places.specs.Idling.{IdleValue}
use Rattle.idle_places.specs.Later.{HasNoReason}
use Rattle.idle_plan.specs.Idling.{IsIdleBy}
use Rattle.place_steps.specs.declared.next.Next.{Next}
use Rattle.place_steps.specs.declared.next.Early.{Early}

-- a place was found idle by a view of it; one that didn't look inside had no reason to be ready there
pub record IsFoundIdleBy (v : ViewValue) (i : IdleValue) : Type 0 where
  pub idle : IsIdleBy v i
  pub no_reason : i.inside ≡ false → (t : IsTableOf all_rules (run_of v.table v.journal) (table_of v.table)) (f : Found) → site_of v.place t.config.roots ≡ Some f → HasNoReason f

-- a right plan for the place of a view, or what the place waits on, as no rule applies there
abbrev pub IsNext : ViewValue → Next → Type 0
IsNext v (Next.Plan p) = IsPlanOf v p
IsNext v (Next.Idle i) = IsFoundIdleBy v i

-- a plan has one label
abbrev pub IsAlone : Next → Type 0
IsAlone (Next.Plan p) = p.more ≡ []
IsAlone (Next.Idle i) = Unit {0}

-- a plan has one label, or no more labels than there is room for
abbrev pub HasRoom : ℕ → Next → Type 0
HasRoom room (Next.Plan p) = (p.more ≡ []) ⊎ (length p.more < room)
HasRoom room (Next.Idle i) = Unit {0}

-- so it is where a call may wait, of which nothing is said then
abbrev pub IsEarly : ViewValue → Early → Type 0
IsEarly v (Early.Next n) = IsNext v n
IsEarly v (Early.Waits x) = Unit {0}

abbrev pub HasEarlyRoom : ℕ → Early → Type 0
HasEarlyRoom room (Early.Next n) = HasRoom room n
HasEarlyRoom room (Early.Waits x) = Unit {0}
