-- What a commit makes of the open places and the kept waits.
use Rattle.std.specs.Prelude.{◌≡◌, List, Some, true, ◌↔◌}
use Rattle.akl_terms.specs.declared.name.Var.{Var}
use Rattle.akl_terms.specs.declared.name.Name.{Name}
use Rattle.akl_terms.specs.declared.name.Place.{Place}
use Rattle.akl_model.specs.Config.{IsIn, Found, box_at, site_of}
use Rattle.akl_model.specs.Conditions.{HasFailed}
use Rattle.akl_model.specs.Wakes.{Wait, IsOneOf, Opens, IsOpenAfterCommit, IsKeptAfterCommit}
use Rattle.box_tree.specs.Plans.{PlanValue}
use Rattle.wake_lists.specs.Waits.{waits_on}
use Rattle.step_commit.specs.Cores.{Commits, TableIn}
use Rattle.scheduler.specs.declared.committing.Committed.{Committed}
use Rattle.scheduler.specs.Openings.{IsOpenAt, AreOpenPlaces, AreListed, AreNewTokens, KeepsTokens}
use Rattle.scheduler.specs.Schedulers.{SchedulerValue}
use Rattle.scheduler.specs.Turns.{told_by, unsolved_by, is_elsewhere, IsUrgentAt}

-- just the places are open that a commit leaves open, and just the waits are kept that it leaves
pub record IsOpenAndKept (s d : SchedulerValue) (p : PlanValue) (t : TableIn s.core) (u : TableIn d.core) (before : List Place) (kept : List Wait) : Type 0 where
  pub is_open : (place : Place) → IsOpenAt d.openings place ↔ IsOpenAfterCommit before kept p.label t.config u.config place
  pub waits : (place : Place) (x : Var) → (waits_on d.waits place x ≡ true) ↔ IsKeptAfterCommit kept t.config u.config place x

-- what a commit opens is among these places
pub record OpensAmong (s d : SchedulerValue) (places : List Place) : Type 0 where
  pub listed : (t : TableIn s.core) (u : TableIn d.core) (kept : List Wait) (place : Place) → AreListed s.waits kept → Opens kept t.config u.config place → IsOneOf place places

-- the boxes are urgent that a commit may have made fail
pub record SuspectsAreUrgent (s d : SchedulerValue) (p : PlanValue) : Type 0 where
  -- one that it opens, with a goal by which it fails
  pub failing : (t : TableIn s.core) (u : TableIn d.core) (kept : List Wait) (n : Name) (f : Found) → AreListed s.waits kept → Opens kept t.config u.config (Place.Box n) → box_at n u.config.roots ≡ Some f → HasFailed f.goals
      → IsUrgentAt d.openings (Place.Box n)
  -- one whose store it leaves unsolved
  pub unsolved : (t : TableIn s.core) (f : Found) (n : Name) → site_of p.label.place t.config.roots ≡ Some f → IsIn n (unsolved_by f.content.name p.step) → IsUrgentAt d.openings (Place.Box n)
  -- and one that it opens where it tells another box something
  pub elsewhere : (t : TableIn s.core) (u : TableIn d.core) (kept : List Wait) (n : Name) (f : Found) → AreListed s.waits kept → Opens kept t.config u.config (Place.Box n) → site_of p.label.place t.config.roots ≡ Some f
      → is_elsewhere (told_by f.content.name p.step) n ≡ true → IsUrgentAt d.openings (Place.Box n)

-- the core goes on by the plan's labels, open and kept is just what a commit leaves so, under the tokens that were, the new tokens are those of the
-- places that weren't open, and of the turns this holds
pub record CommitsWithTurns (their_turns : Type 0) (s : SchedulerValue) (p : PlanValue) (d : SchedulerValue) (r : Committed) : Type 0 where
  pub commits : Commits s.core p d.core r.receipt
  pub follows : (t : TableIn s.core) (u : TableIn d.core) (before : List Place) (kept : List Wait) → AreOpenPlaces s.openings before → AreListed s.waits kept → IsOpenAndKept s d p t u before kept
  pub keeps : KeepsTokens s.openings d.openings r.opened.items
  pub tokens : AreNewTokens s.openings d.openings r.opened.items
  pub turns : their_turns

-- the same with turns by which the boxes come first that may have failed
abbrev pub CommitsAndOpens : SchedulerValue → PlanValue → SchedulerValue → Committed → Type 0
CommitsAndOpens s p d r = CommitsWithTurns (SuspectsAreUrgent s d p) s p d r
