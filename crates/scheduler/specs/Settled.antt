-- What a settle makes of the open places and the kept waits.
use Rattle.std.specs.Prelude.{◌≡◌, ◌<◌, ℕ, List, ◌++◌, true, false, Option, Some, None, ◌↔◌}
use Rattle.akl_terms.specs.declared.name.Name.{Name}
use Rattle.akl_terms.specs.declared.name.Var.{Var}
use Rattle.akl_terms.specs.declared.name.Place.{Place}
use Rattle.akl_model.specs.declared.item.Item.{Item}
use Rattle.akl_model.specs.declared.label.Label.{Label}
use Rattle.akl_model.specs.Config.{Config, Found, box_at}
use Rattle.akl_model.specs.Wakes.{Wait, SettleOpens, IsOpenAfterSettle, IsKeptAfterSettle}
use Rattle.box_tree.specs.Plans.{IsRead}
use Rattle.wake_lists.specs.Open.{Opening, opening_at, is_busy}
use Rattle.wake_lists.specs.Waits.{waits_on}
use Rattle.step_commit.specs.Cores as cores
use Rattle.step_commit.specs.Cores.{CoreValue, TableIn}
use Rattle.idle_places.specs.Idling.{IdleValue}
use Rattle.idle_places.specs.Later.{HasNoReason, IsIdleStill}
use Rattle.scheduler.specs.declared.settling.SettleError.{SettleError}
use Rattle.scheduler.specs.Openings.{IsOpenAt, AreOthersOpen, AreListed, token_list, KeepsTokens}
use Rattle.scheduler.specs.Schedulers.{SchedulerValue}
use Rattle.scheduler.specs.Weights.{weight}

-- a place was found idle for a front of the journal
pub record MaySettle (c : CoreValue) (v : IdleValue) : Type 0 where
  pub program : v.table.program ≡ c.table.program
  pub query : v.table.query ≡ c.table.query
  pub further : List Label
  pub front : c.journal ≡ v.journal ++ further

-- no label behind that front changed an item that was read
pub record IsFreshIdle (c : CoreValue) (v : IdleValue) : Type 0 where
  pub unchanged : (i : Item) → IsRead v.reads i → cores.IsUnchanged c v.journal i

-- nothing is open in a box, and it has no goal by which it fails, and no candidate of a split
pub record HasNoReasonNow (s : SchedulerValue) (n : Name) : Type 0 where
  pub at_rest : is_busy n s.openings ≡ false
  pub no_reason : (t : TableIn s.core) (f : Found) → box_at n t.config.roots ≡ Some f → HasNoReason f

-- so it is for a box that was found idle without a look inside
abbrev pub IsSeenEnough : SchedulerValue → IdleValue → Type 0
IsSeenEnough s v = v.inside ≡ false → (n : Name) → v.place ≡ Place.Box n → HasNoReasonNow s n

-- the place isn't ready now, and these variables are enough for it to wait on
pub record IsFoundIdle (c : CoreValue) (place : Place) (on : List Var) : Type 0 where
  pub idle : (t : TableIn c) → IsIdleStill c.table.program t.config place on

-- the token of the box that a settle opens, if it opens one
pub record IsTokenOfOpened (s d : SchedulerValue) (place : Place) (c : Config) (still : List Place) (result : Option ℕ) : Type 0 where
  pub opened : (token : ℕ) → result ≡ Some token → (n : Name) × SettleOpens still c place n × ((o : Opening) × (opening_at token d.openings ≡ Some o) × (o.place ≡ Place.Box n))
  pub none : result ≡ None → (n : Name) → SettleOpens still c place n → ⊥

-- where these are open besides the place, and these waits are kept, just what a settle leaves open and kept is so
pub record IsLeftBySettle (s d : SchedulerValue) (place : Place) (on : List Var) (c : Config) (still : List Place) (kept : List Wait) (result : Option ℕ) : Type 0 where
  pub is_open : (other : Place) → IsOpenAt d.openings other ↔ IsOpenAfterSettle still c place other
  pub waits : (other : Place) (x : Var) → (waits_on d.waits other x ≡ true) ↔ IsKeptAfterSettle kept still c place on other x
  pub token : IsTokenOfOpened s d place c still result

-- a place that isn't open is left alone; else at most one box is opened for it, which stands in fewer boxes; the tokens are those that were, and
-- that of this box
pub record Settles (s : SchedulerValue) (place : Place) (on : List Var) (d : SchedulerValue) (result : Option ℕ) : Type 0 where
  pub core : d.core ≡ s.core
  pub unopened : (IsOpenAt s.openings place → ⊥) → (d ≡ s) × (result ≡ None)
  pub settled : IsOpenAt s.openings place → (t : TableIn s.core) (still : List Place) (kept : List Wait) → AreOthersOpen s.openings place still → AreListed s.waits kept → IsLeftBySettle s d place on t.config still kept result
  pub lighter : IsOpenAt s.openings place → weight d.openings < weight s.openings
  pub keeps : KeepsTokens s.openings d.openings (token_list result)

-- the state is as it was
pub record IsUnchanged (s d : SchedulerValue) : Type 0 where
  pub core : d.core ≡ s.core
  pub openings : d.openings ≡ s.openings
  pub waits : (place : Place) (x : Var) → waits_on d.waits place x ≡ waits_on s.waits place x

-- why a place isn't settled; want of memory is free
abbrev pub IsNotSettled : SchedulerValue → IdleValue → SettleError → Type 0
IsNotSettled s v (SettleError.Stale item stamp) = cores.IsStale s.core v.journal v.reads item stamp
IsNotSettled s v SettleError.LookInside = IsFreshIdle s.core v × (IsSeenEnough s v → ⊥)
IsNotSettled s v (SettleError.Memory error) = Unit {0}
