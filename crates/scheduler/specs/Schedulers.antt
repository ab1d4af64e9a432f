-- The state of a run with its open places and its kept waits.
use Rattle.std.specs.Prelude.{◌≡◌, ℕ, List, false, IfSome}
use Rattle.akl_terms.specs.declared.name.Var.{Var}
use Rattle.akl_terms.specs.declared.name.Place.{Place}
use Rattle.akl_model.specs.Derivations.{IsQuietEnd}
use Rattle.akl_model.specs.Wakes.{Wait, IsThere}
use Rattle.plan_laws.specs.Runs.{Runs}
use Rattle.plan_laws.specs.Waits.{AreWaits}
use Rattle.box_tree.specs.Tables.{all_rules, table_of}
use Rattle.box_tree.specs.Views.{is_there}
use Rattle.wake_lists.specs.Open.{Opening, Openings, opening_at}
use Rattle.step_commit.specs.Cores.{CoreValue, IsCore, TableIn}
use Rattle.scheduler.specs.Openings.{IsOpenAt, AreOpenPlaces, AreListed, AreApart, AreStandingIn, AreFirstTokens, AreOpenOnce}

pub record SchedulerValue : Type 0 where
  pub core : CoreValue
  pub openings : Openings
  pub waits : List (Var × List Place)

-- open places and waits to which commits, settles and forgets led from the query on, with no token twice, each place in the boxes around it
pub record IsScheduler (s : SchedulerValue) : Type 0 where
  pub core : IsCore s.core
  pub now : List Place
  pub are_open : AreOpenPlaces s.openings now
  pub kept : List Wait
  pub listed : AreListed s.waits kept
  pub run : Runs all_rules s.core.table.program s.core.table.query s.core.journal core.table.config now kept
  pub waits : AreWaits core.table.config now kept
  pub apart : AreApart s.openings
  pub standing : AreStandingIn core.table.config s.openings

-- no place is ready
pub record IsQuiet (s : SchedulerValue) : Type 0 where
  pub quiet : (t : TableIn s.core) → IsQuietEnd all_rules s.core.table.program t.config

-- just the places that are there are open, each under one token, and these are the first ones
pub record AllOpen (s : SchedulerValue) : Type 0 where
  pub all : (t : TableIn s.core) (place : Place) → IsThere place t.config.roots → IsOpenAt s.openings place
  pub only : (t : TableIn s.core) (place : Place) → IsOpenAt s.openings place → IsThere place t.config.roots
  pub once : AreOpenOnce s.openings
  pub tokens : AreFirstTokens s.openings

-- the open place with this token has gone
abbrev pub HasGone : SchedulerValue → ℕ → Type 0
HasGone s token = IfSome (opening_at token s.openings) (λ (o : Opening). is_there (table_of s.core.table) o.place ≡ false)
